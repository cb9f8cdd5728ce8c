use mathlib.Core.Path.{◌≡◌, ap, ◌∙◌}
use Prim.Native.Nat.{ℕ}
use native.Mathlib.Omega.{arith}
use borrow.Author.Rules.{rules}
use lib.Dec.{eqb}
use lib.ListN.{length}
use Rattle.std.proofs.lemmas.Slice.Zip.{zip_turn, zip_end}
use Rattle.marks.specs.Labels.{says_yes}
use Rattle.marks.specs.Counts.{counts_of, counted_of}
use Rattle.marks.proofs.Counting.{counting, few, count-yielded}
use Rattle.marks.proofs.marks.count_guesses.Goals as goal

pub loop-guess-init : goal.loop-guess-init
loop-guess-init c = search (counting, rules)

pub with-counts-requires : goal.with-counts-requires
with-counts-requires c =
    let at = zip_turn c.args.guesses.now c.args.labels.now c.loop-guess.yielded c.into_iter-guess-iterator.result _ c.next.new.self _ (cc) (cc)
    c.loop-guess.yielded_by _ c.in-Some.is c.next.ensures.steps in
    few (says_yes c.args.guesses.now) (says_yes c.args.labels.now) (length c.loop-guess.yielded) c.loop-guess.counts c.loop-guess.invariant
    (length c.args.labels.now) at.1 c.requires.labels_len_bound

pub loop-guess-preserved : goal.loop-guess-preserved
loop-guess-preserved c =
    let at = zip_turn c.args.guesses.now c.args.labels.now c.loop-guess.yielded c.into_iter-guess-iterator.result _ c.next.new.self _ (cc) (cc)
    c.loop-guess.yielded_by _ c.in-Some.is c.next.ensures.steps in
    count-yielded c.loop-guess.yielded _ (says_yes c.args.guesses.now) (says_yes c.args.labels.now) c.loop-guess.counts _
    (eqb c.in-Some.field-0-0.now 1) c.loop-guess.invariant (ap (λ (n : ℕ). eqb n 1) (at.2 0))
    (c.with-counts.ensures ∙ ap (λ (n : ℕ). counted_of c.loop-guess.counts (eqb c.in-Some.field-0-0.now 1) (eqb n 1)) (at.3 0))

pub returns : goal.returns
returns c =
    let end = zip_end c.args.guesses.now c.args.labels.now c.loop-guess.yielded c.into_iter-guess-iterator.result _ c.next.new.self _ (cc) (cc)
    c.loop-guess.yielded_by c.in-None.is c.next.ensures.steps in
    let all : length c.loop-guess.yielded ≡ length c.args.labels.now = omega (arith, end, c.requires.guesses_len) in
    c.loop-guess.invariant ∙ ap (λ (n : ℕ). counts_of n (says_yes c.args.guesses.now) (says_yes c.args.labels.now)) all
