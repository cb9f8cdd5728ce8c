use borrow.Author.Rules.{rules}
use Rattle.report.proofs.Figures.{put-zero, put_one, put-more, one-room, more_room, last-room}
use Rattle.report.proofs.text.+put_figures.Goals as goal

pub returns-then-k-eq0 : goal.returns-then-k-eq0
returns-then-k-eq0 t c = search (put-zero, rules)

pub put_byte-requires : goal.put_byte-requires
put_byte-requires t c = search (one-room, rules)

pub returns-then-n-lt10 : goal.returns-then-n-lt10
returns-then-n-lt10 t c = search (put_one, rules)

pub put_figures-next-requires : goal.put_figures-next-requires
put_figures-next-requires t c = search (more_room, rules)

pub put_byte-requires-2 : goal.put_byte-requires-2
put_byte-requires-2 t c = search (last-room, rules)

pub returns : goal.returns
returns t c = search (put-more, rules)
