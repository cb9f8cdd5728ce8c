use Rattle.promises.proofs.Back.{file-refused, file-done}
use Rattle.promises.proofs.returned.file_back.Goals as goal

pub returns-then-not-is_done-clause-value : goal.returns-then-not-is_done-clause-value
returns-then-not-is_done-clause-value c = (file-refused _ _ _ _ c.read-reading.ensures c.is_done.ensures c.if-not-is_done.true).0

pub returns-then-not-is_done-clause-out_after : goal.returns-then-not-is_done-clause-out_after
returns-then-not-is_done-clause-out_after c = (file-refused _ _ _ _ c.read-reading.ensures c.is_done.ensures c.if-not-is_done.true).1

pub returns-clause-value : goal.returns-clause-value
returns-clause-value c = (file-done _ _ _ _ c.read-reading.ensures c.is_done.ensures c.if-not-is_done.false
    (λ k. (c.shared_slice_known-1.given k).fits) _ _ c.write.ensures.value c.write.ensures.out_after).0

pub returns-clause-out_after : goal.returns-clause-out_after
returns-clause-out_after c = (file-done _ _ _ _ c.read-reading.ensures c.is_done.ensures c.if-not-is_done.false
    (λ k. (c.shared_slice_known-1.given k).fits) _ _ c.write.ensures.value c.write.ensures.out_after).1
