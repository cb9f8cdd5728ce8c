use borrow.Author.Rules.{rules}
use Rattle.graphfile.proofs.Opening.{opening}
use Rattle.graphfile.proofs.file.File.open.Goals as goal

pub returns-then-bytes-head_length-clause-err : goal.returns-then-bytes-head_length-clause-err
returns-then-bytes-head_length-clause-err c = (search (opening, rules), search rules)

pub returns-then-not-opens_file-clause-err : goal.returns-then-not-opens_file-clause-err
returns-then-not-opens_file-clause-err c = (search (opening, rules), search rules)

pub returns-then-bytes-head_length-2-clause-err : goal.returns-then-bytes-head_length-2-clause-err
returns-then-bytes-head_length-2-clause-err c = (search (opening, rules), search rules)
