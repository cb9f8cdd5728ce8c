use borrow.Author.Rules.{rules}
use Rattle.sets.proofs.Members.{those-mem}
use Rattle.months.proofs.Initial.{initials}
use Rattle.months.proofs.filling.initial.Goals as goal

pub returns-in-2-to-449 : goal.returns-in-2-to-449
returns-in-2-to-449 c = search (initials, those-mem, rules)
