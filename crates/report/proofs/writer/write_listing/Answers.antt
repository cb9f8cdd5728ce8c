use borrow.Author.Rules.{rules}
use Rattle.report.proofs.Ways.{small-listed, small-kept, refused-fits, refused-listed, refused-held, graph-fits, graph-listed, graph-held}
use Rattle.report.proofs.writer.write_listing.Goals as goal

pub returns-then-out-longest_in-clause-value : goal.returns-then-out-longest_in-clause-value
returns-then-out-longest_in-clause-value c = search (small-listed, small-kept, rules)

pub returns-then-out-longest_in-clause-out_after : goal.returns-then-out-longest_in-clause-out_after
returns-then-out-longest_in-clause-out_after c = search (small-listed, small-kept, rules)

pub put_refused-size-requires : goal.put_refused-size-requires
put_refused-size-requires c = search (refused-fits, rules)

pub returns-then-not-is_done-clause-value : goal.returns-then-not-is_done-clause-value
returns-then-not-is_done-clause-value c = search (refused-listed, refused-held, rules)

pub returns-then-not-is_done-clause-out_after : goal.returns-then-not-is_done-clause-out_after
returns-then-not-is_done-clause-out_after c = search (refused-listed, refused-held, rules)

pub put_graph-size-requires : goal.put_graph-size-requires
put_graph-size-requires c = search (graph-fits, rules)

pub returns-clause-value : goal.returns-clause-value
returns-clause-value c = search (graph-listed, graph-held, rules)

pub returns-clause-out_after : goal.returns-clause-out_after
returns-clause-out_after c = search (graph-listed, graph-held, rules)
