use Rattle.sets.specs.Tests.{◌and◌}
use Rattle.sets.proofs.MadeSets.{without, joined, less, is-those, is_row}
use Rattle.steps.proofs.relations.waited_for.Goals as goal

pub returns : goal.returns
returns c = let other = without _ _ _ (is-those _ _ c.one.ensures)
    c.complement-other.ensures in
    let ahead = joined ◌and◌ _ _ _ _ _ (is-those _ _ other) (is_row _ _ _ c.row.ensures)
    c.intersection.ensures in
    less _ _ _ _ _ (is-those _ _ ahead) (is_row _ _ _ c.row-2.ensures) c.difference.ensures
