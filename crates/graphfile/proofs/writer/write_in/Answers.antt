use borrow.Author.Rules.{rules}
use Rattle.engine.specs.Relations.{graph_of}
use Rattle.graphfile.proofs.Writes.{room_small, small-keeps, room_whole, file-room}
use Rattle.graphfile.proofs.Forms.{file-fits}
use Rattle.graphfile.proofs.Stores.{total-by}
use Rattle.graphfile.proofs.writer.write_in.Goals as goal

pub overflow_add-length : goal.overflow_add-length
overflow_add-length g c = search (file-fits, rules)

pub returns-then-out-length-clause-value : goal.returns-then-out-length-clause-value
returns-then-out-length-clause-value g c = search (room_small, total-by, rules)

pub returns-then-out-length-clause-out_after : goal.returns-then-out-length-clause-out_after
returns-then-out-length-clause-out_after g c = search (small-keeps, total-by, rules)

pub put_file-requires-clause-relation_count_in_bounds : goal.put_file-requires-clause-relation_count_in_bounds
put_file-requires-clause-relation_count_in_bounds g c = search (total-by, file-room, rules)

pub returns-clause-value : goal.returns-clause-value
returns-clause-value g c = (room_whole (graph_of _ _) _ _ _ _ _ c.requires
    (total-by _ _ _ c.of-counts.ensures _ c.total.ensures.value) c.head_length.ensures.value c.rows_length.ensures _ c.if-out-length.false
    c.put_file.ensures).0

pub returns-clause-out_after : goal.returns-clause-out_after
returns-clause-out_after g c = (room_whole (graph_of _ _) _ _ _ _ _ c.requires
    (total-by _ _ _ c.of-counts.ensures _ c.total.ensures.value) c.head_length.ensures.value c.rows_length.ensures _ c.if-out-length.false
    c.put_file.ensures).1
