-- The cases of 01, "Calls to try", that are marked (P), with the blockers of 02, 2/12, the light graph of L (02, 3/12), and where the step 7 of
-- 02, 7/12, gives more than that of 01: one table, computed by antt.
use lib.Dec.{T, ltb, lit≤}
use mathlib.Core.Path.{ap}
use Prim.Native.Nat.{◌≤◌}
use lib.ListN.{length}
use Rattle.sets.specs.Sizes.{longest_trace}
use Rattle.sets.specs.declared.answer.Answer.TheVariants.{Done}
use Rattle.engine.specs.Judged.{judged}
use Rattle.engine.specs.Relations.{relations_of}
use Rattle.engine.specs.Enabled.{marked, graph_at}
use Rattle.engine.proofs.Acceptable.{judged-at, replay-judged, stepped-judged, opening-kept}
use Rattle.engine.proofs.Examples.{table-judged}
use mathlib.Core.Path.{◌≡◌, refl, ◌∙◌}
use mathlib.Core.Bool.{true, false}
use mathlib.Core.List.{List, [], ◌∷◌, ◌++◌, map}
use Prim.Native.Nat.{ℕ}
use Rattle.sets.specs.Tests.{◌and◌, ◌or◌, non}
use Rattle.sets.specs.Members.{bit, bits_of, some_below, least_below, every_below, is_empty, within, mem, those}
use Rattle.sets.specs.Rows.{row_at, in_row, list_from, rows_of}
use Rattle.sets.specs.Tables.{table_at, with_row_in, tables_of}
use Rattle.engine.specs.declared.graph.Graph.{Graph}
use Rattle.engine.specs.Markings.{opening_of}
use Rattle.engine.specs.Steps.{waits, blocker, enabled, after, accepting}
use Rattle.engine.specs.Judged.{state_within, row_within, rows_within, relations_within, graph_within, judged_for, judged_with}
use Rattle.engine.specs.Replay.{enabled_of, stepped_of, replay_from, replay_of}
use Rattle.engine.proofs.Examples.{table3, table3-after}
use Rattle.octets.specs.Numbers.{value_of, number_at}
use Rattle.octets.specs.Opens.{opens_with}
use Rattle.octets.specs.Editions.{edition_for, opens_file, beyond}
use Rattle.calllog.specs.Layout.{activities_in, traces_in, offset_at, length_at, bodies_start, events_before}
use Rattle.sets.specs.Answers.{first_refusal}
use Rattle.calllog.specs.Judged.{all_below, judged_head, judged_entry, judged_bodies, judged_contents, judged_log}
use Rattle.calllog.specs.Logs.{traces_from, log_of}
use Rattle.rules.specs.declared.Profile.TheVariants.{Full, Light}
use Rattle.rules.specs.Traces.{Traces, ◌has◌, ◌begins_with◌, at_each_from, at_some_from, every_trace, some_trace}
use Rattle.rules.specs.Mining.{no_pair, no_relations, smallest_source, ◌without◌, event, some_event, ◌with◌, at_most_once, precedes, answers, chained, together, before, followed, between, alternates, before_first, step1, step2, directly_before, step3, never_together, step4, closes, step5, step6, let_in_between, makes_redundant, step7, reduced, step8, included_after, never_missed, step9, step10, after_five, after_six, after_seven, after_eight, mined}
use Rattle.rules.specs.Mined.{graph_from, mined_graph}
use Rattle.rules.proofs.ByPairs.{same, few, few_pairs, agree, agrees, by-pairs}
use Rattle.rules.proofs.Listed.{Pair, ◌to◌, listed, rows, Case, ◌gives◌, reading, mining, replaying, stepping, log, graph, ended, stepped, end, step, asked, wanted}

-- the log L, and all bytes of its file
unfoldable pub L : Traces
L = (0 ∷ 1 ∷ 2 ∷ []) ∷ (0 ∷ 2 ∷ []) ∷ []

file : List ℕ
file = 66 ∷ 76 ∷ 1 ∷ 3 ∷ 2 ∷ 0 ∷ 0 ∷ 0 ∷ 3 ∷ 0 ∷ 3 ∷ 0 ∷ 2 ∷ 0 ∷ 0 ∷ 1 ∷ 2 ∷ 0 ∷ 2 ∷ []

-- the graph of L as the listing has it: the pairs of C, R, I, and those given for E
listing : List Pair → Graph
listing excludes =
    listed 3 (0 ∷ 1 ∷ 2 ∷ [])
    (0 to 1 ∷ 0 to 2 ∷ [])
    (0 to 2 ∷ 1 to 2 ∷ [])
    (0 to 1 ∷ [])
    excludes

-- a graph in numbers: A, all below it events, and for each relation its rows from row 0, each as the number that the graph file holds
abbrev in_numbers : ℕ → List ℕ → List ℕ → List ℕ → List ℕ → Graph
in_numbers A c r i e =
    graph_at A (those (λ a. ltb a A)) (opening_of (those (λ a. ltb a A))) (rows c ++ (rows r ++ (rows i ++ rows e)))

unfoldable pub G : Graph
G = in_numbers 3 (0 ∷ 1 ∷ 1 ∷ []) (4 ∷ 4 ∷ []) (2 ∷ []) (1 ∷ 2 ∷ 6 ∷ [])

unfoldable pub light_g : Graph
light_g = in_numbers 3 (0 ∷ 1 ∷ 1 ∷ []) (4 ∷ 4 ∷ []) (2 ∷ []) (1 ∷ 2 ∷ 4 ∷ [])

-- the trainers' story (02, 7/12): 0 is Draft, 1 Check, 2 Amend, 3 Seal. No call has Amend after Seal. Draft excludes Amend and Check lets it in
-- again, so Draft does not make "Seal excludes Amend" redundant
unfoldable pub story : Traces
story = (0 ∷ 1 ∷ 2 ∷ 3 ∷ []) ∷ (0 ∷ 1 ∷ 3 ∷ []) ∷ []

unfoldable pub story_g : Graph
story_g = in_numbers 4 (0 ∷ 1 ∷ 2 ∷ 2 ∷ []) (2 ∷ 8 ∷ 8 ∷ []) (2 ∷ 12 ∷ 8 ∷ []) (13 ∷ 2 ∷ 4 ∷ 12 ∷ [])

part0 : List Case
part0 =
    reading file gives log 0 3 L
    ∷ []

part1 : List Case
part1 =
    mining 3 L Full gives graph (listing (0 to 0 ∷ 1 to 1 ∷ 2 to 1 ∷ 2 to 2 ∷ []))
    ∷ []

part2 : List Case
part2 =
    mining 3 L Full gives graph G
    ∷ []

part3 : List Case
part3 =
    replaying G (0 ∷ 1 ∷ 2 ∷ []) gives ended 0 255 3 true
    ∷ replaying G (0 ∷ 2 ∷ []) gives ended 0 255 2 true
    ∷ replaying G [] gives ended 0 255 0 true
    ∷ replaying G (0 ∷ []) gives ended 0 255 1 false
    ∷ []

part4 : List Case
part4 =
    replaying G (2 ∷ []) gives ended 10 0 0 false
    ∷ replaying G (0 ∷ 0 ∷ []) gives ended 9 255 1 false
    ∷ replaying G (0 ∷ 2 ∷ 1 ∷ []) gives ended 9 255 2 false
    ∷ replaying G (3 ∷ []) gives ended 8 255 0 false
    ∷ []

part5 : List Case
part5 =
    mining 2 ((0 ∷ 1 ∷ 0 ∷ []) ∷ []) Full gives graph (listed 2 (0 ∷ 1 ∷ []) (0 to 1 ∷ []) (1 to 0 ∷ []) (0 to 1 ∷ 1 to 0 ∷ []) (0 to 0 ∷ 1 to 1 ∷ []))
    ∷ []

part6 : List Case
part6 =
    mining 2 ((0 ∷ []) ∷ (1 ∷ []) ∷ []) Full gives graph (listed 2 (0 ∷ 1 ∷ []) [] [] [] (0 to 0 ∷ 0 to 1 ∷ 1 to 0 ∷ 1 to 1 ∷ []))
    ∷ []

part7 : List Case
part7 =
    mining 1 ((0 ∷ 0 ∷ []) ∷ []) Full gives graph (listed 1 (0 ∷ []) [] [] [] [])
    ∷ []

part8 : List Case
part8 =
    stepping table3 table3.head.opening 4 gives stepped 0 255 (marked table3.head.events (relations_of table3) table3-after)
    ∷ []

-- without step 6 only the exclusions differ
part9 : List Case
part9 =
    mining 3 L Light gives graph (listing (0 to 0 ∷ 1 to 1 ∷ 2 to 2 ∷ []))
    ∷ []

-- 02, 7/12: the shortest log on which the step 7 of 01 gave less: 2 to 2 is new
part10 : List Case
part10 =
    mining 3 ((0 ∷ 1 ∷ 2 ∷ []) ∷ []) Full gives graph
    (listed 3 (0 ∷ 1 ∷ 2 ∷ []) (0 to 1 ∷ 1 to 2 ∷ []) (0 to 1 ∷ 1 to 2 ∷ []) (0 to 1 ∷ 1 to 2 ∷ []) (0 to 0 ∷ 0 to 2 ∷ 1 to 1 ∷ 2 to 2 ∷ []))
    ∷ []

-- the trainers' story: its graph, and Amend after Seal
part11 : List Case
part11 =
    mining 4 story Full gives graph story_g
    ∷ []

part12 : List Case
part12 =
    replaying story_g (0 ∷ 1 ∷ 3 ∷ 2 ∷ []) gives ended 9 255 3 false
    ∷ replaying story_g (0 ∷ 1 ∷ 3 ∷ []) gives ended 0 255 3 true
    ∷ []

pub table : List Case
table = part0 ++ part1 ++ part2 ++ part3 ++ part4 ++ part5 ++ part6 ++ part7 ++ part8 ++ part9 ++ part10 ++ part11 ++ part12

same0 : map asked part0 ≡ map wanted part0
unfolding part0 file L listing G
    ◌and◌ ◌or◌ non bit mem those bits_of some_below least_below every_below is_empty within row_at table_at with_row_in in_row list_from rows_of tables_of
    waits blocker enabled after accepting state_within row_within rows_within relations_within graph_within judged_for judged_with enabled_of stepped_of replay_from replay_of
    opens_with opens_file edition_for beyond value_of number_at activities_in traces_in offset_at length_at bodies_start events_before
    first_refusal all_below judged_head judged_entry judged_bodies judged_contents judged_log traces_from log_of
    ◌has◌ ◌begins_with◌ at_each_from at_some_from every_trace some_trace
    no_pair no_relations smallest_source ◌without◌ event some_event ◌with◌ at_most_once precedes answers chained together before followed between alternates before_first
    step1 step2 directly_before step3 never_together step4 closes step5 step6 let_in_between makes_redundant step7 reduced step8 included_after never_missed step9 step10
    after_five after_six after_seven after_eight mined graph_from mined_graph
same0 = refl

-- the computed tests stand by themselves: each is what refuses a wrong rule
L-agrees : T (agrees 3 3 (lit≤ tt) L Full (0 ∷ 1 ∷ 2 ∷ []) (0 to 1 ∷ 0 to 2 ∷ []) (0 to 2 ∷ 1 to 2 ∷ []) (0 to 1 ∷ []) (0 to 0 ∷ 1 to 1 ∷ 2 to 1 ∷ 2 to 2 ∷ []))
unfolding L
    ◌and◌ ◌or◌ non some_below every_below list_from
    ◌has◌ ◌begins_with◌ at_each_from at_some_from every_trace some_trace
    no_pair no_relations smallest_source ◌without◌ event some_event ◌with◌ at_most_once precedes answers chained together before followed between alternates before_first
    step1 step2 directly_before step3 never_together step4 closes step5 step6 let_in_between makes_redundant step7 reduced step8 included_after never_missed step9 step10
    after_five after_six after_seven after_eight mined same few few_pairs agree agrees
L-agrees = tt

L-graph : mined_graph 3 L Full ≡ listing (0 to 0 ∷ 1 to 1 ∷ 2 to 1 ∷ 2 to 2 ∷ [])
unfolding listing
L-graph = by-pairs 3 3 (lit≤ tt) L Full (0 ∷ 1 ∷ 2 ∷ []) (0 to 1 ∷ 0 to 2 ∷ []) (0 to 2 ∷ 1 to 2 ∷ []) (0 to 1 ∷ []) (0 to 0 ∷ 1 to 1 ∷ 2 to 1 ∷ 2 to 2 ∷ []) L-agrees

same1 : map asked part1 ≡ map wanted part1
unfolding part1
same1 = λ j. graph (L-graph j) ∷ []

G-listed : listing (0 to 0 ∷ 1 to 1 ∷ 2 to 1 ∷ 2 to 2 ∷ []) ≡ G
unfolding listing G those bits_of ◌has◌ ◌and◌ ◌or◌ tables_of rows_of list_from
G-listed = refl

same2 : map asked part2 ≡ map wanted part2
unfolding part2
same2 = λ j. graph ((L-graph ∙ G-listed) j) ∷ []

pub judged-G : judged G ≡ Done
unfolding G graph_within relations_within rows_within row_within state_within within is_empty every_below bits_of bit mem those ◌and◌ ◌or◌ non row_at table_at list_from
judged-G = judged-at 3 G.head.events G.head.opening.state G.relations refl refl

on-G : (σ : List ℕ) → length σ ≤ longest_trace → end (replay_of G σ) ≡ end (replay_from G.head.events (relations_of G) G.head.opening.state 0 σ)
on-G σ l = ap end (replay-judged G judged-G σ l)

same3 : map asked part3 ≡ map wanted part3
unfolding part3 replay_from enabled waits blocker after accepting some_below least_below bits_of bit mem those ◌and◌ ◌or◌ non row_at table_at with_row_in in_row G list_from
same3 = λ i. on-G (0 ∷ 1 ∷ 2 ∷ []) (lit≤ tt) i ∷ on-G (0 ∷ 2 ∷ []) (lit≤ tt) i ∷ on-G [] (lit≤ tt) i ∷ on-G (0 ∷ []) (lit≤ tt) i ∷ []

same4 : map asked part4 ≡ map wanted part4
unfolding part4 replay_from enabled waits blocker after accepting some_below least_below bits_of bit mem those ◌and◌ ◌or◌ non row_at table_at with_row_in in_row G list_from
same4 = λ i. on-G (2 ∷ []) (lit≤ tt) i ∷ on-G (0 ∷ 0 ∷ []) (lit≤ tt) i ∷ on-G (0 ∷ 2 ∷ 1 ∷ []) (lit≤ tt) i ∷ on-G (3 ∷ []) (lit≤ tt) i ∷ []

same5 : map asked part5 ≡ map wanted part5
unfolding part5
    ◌and◌ ◌or◌ non some_below every_below list_from
    ◌has◌ ◌begins_with◌ at_each_from at_some_from every_trace some_trace
    no_pair no_relations smallest_source ◌without◌ event some_event ◌with◌ at_most_once precedes answers chained together before followed between alternates before_first
    step1 step2 directly_before step3 never_together step4 closes step5 step6 let_in_between makes_redundant step7 reduced step8 included_after never_missed step9 step10
    after_five after_six after_seven after_eight mined same few few_pairs agree agrees
same5 = λ j. graph (by-pairs 2 2 (lit≤ tt) ((0 ∷ 1 ∷ 0 ∷ []) ∷ []) Full (0 ∷ 1 ∷ []) (0 to 1 ∷ []) (1 to 0 ∷ []) (0 to 1 ∷ 1 to 0 ∷ []) (0 to 0 ∷ 1 to 1 ∷ []) tt j) ∷ []

same6 : map asked part6 ≡ map wanted part6
unfolding part6
    ◌and◌ ◌or◌ non some_below every_below list_from
    ◌has◌ ◌begins_with◌ at_each_from at_some_from every_trace some_trace
    no_pair no_relations smallest_source ◌without◌ event some_event ◌with◌ at_most_once precedes answers chained together before followed between alternates before_first
    step1 step2 directly_before step3 never_together step4 closes step5 step6 let_in_between makes_redundant step7 reduced step8 included_after never_missed step9 step10
    after_five after_six after_seven after_eight mined same few few_pairs agree agrees
same6 = λ j. graph (by-pairs 2 2 (lit≤ tt) ((0 ∷ []) ∷ (1 ∷ []) ∷ []) Full (0 ∷ 1 ∷ []) [] [] [] (0 to 0 ∷ 0 to 1 ∷ 1 to 0 ∷ 1 to 1 ∷ []) tt j) ∷ []

same7 : map asked part7 ≡ map wanted part7
unfolding part7
    ◌and◌ ◌or◌ non some_below every_below list_from
    ◌has◌ ◌begins_with◌ at_each_from at_some_from every_trace some_trace
    no_pair no_relations smallest_source ◌without◌ event some_event ◌with◌ at_most_once precedes answers chained together before followed between alternates before_first
    step1 step2 directly_before step3 never_together step4 closes step5 step6 let_in_between makes_redundant step7 reduced step8 included_after never_missed step9 step10
    after_five after_six after_seven after_eight mined same few few_pairs agree agrees
same7 = λ j. graph (by-pairs 1 1 (lit≤ tt) ((0 ∷ 0 ∷ []) ∷ []) Full (0 ∷ []) [] [] [] [] tt j) ∷ []

same8 : map asked part8 ≡ map wanted part8
unfolding part8 replay_from enabled waits blocker after accepting some_below least_below bits_of bit mem those ◌and◌ ◌or◌ non row_at table_at with_row_in in_row G list_from
same8 = λ i. step (stepped-judged table3 table-judged table3.head.opening (opening-kept table3 table-judged) 4 i) ∷ []

same9 : map asked part9 ≡ map wanted part9
unfolding part9 L listing
    ◌and◌ ◌or◌ non some_below every_below list_from
    ◌has◌ ◌begins_with◌ at_each_from at_some_from every_trace some_trace
    no_pair no_relations smallest_source ◌without◌ event some_event ◌with◌ at_most_once precedes answers chained together before followed between alternates before_first
    step1 step2 directly_before step3 never_together step4 closes step5 step6 let_in_between makes_redundant step7 reduced step8 included_after never_missed step9 step10
    after_five after_six after_seven after_eight mined same few few_pairs agree agrees
same9 = λ j. graph (by-pairs 3 3 (lit≤ tt) L Light (0 ∷ 1 ∷ 2 ∷ []) (0 to 1 ∷ 0 to 2 ∷ []) (0 to 2 ∷ 1 to 2 ∷ []) (0 to 1 ∷ []) (0 to 0 ∷ 1 to 1 ∷ 2 to 2 ∷ []) tt j) ∷ []

shortest-agrees : T (agrees 3 3 (lit≤ tt) ((0 ∷ 1 ∷ 2 ∷ []) ∷ []) Full (0 ∷ 1 ∷ 2 ∷ []) (0 to 1 ∷ 1 to 2 ∷ []) (0 to 1 ∷ 1 to 2 ∷ []) (0 to 1 ∷ 1 to 2 ∷ []) (0 to 0 ∷ 0 to 2 ∷ 1 to 1 ∷ 2 to 2 ∷ []))
unfolding ◌and◌ ◌or◌ non some_below every_below list_from
    ◌has◌ ◌begins_with◌ at_each_from at_some_from every_trace some_trace
    no_pair no_relations smallest_source ◌without◌ event some_event ◌with◌ at_most_once precedes answers chained together before followed between alternates before_first
    step1 step2 directly_before step3 never_together step4 closes step5 step6 let_in_between makes_redundant step7 reduced step8 included_after never_missed step9 step10
    after_five after_six after_seven after_eight mined same few few_pairs agree agrees
shortest-agrees = tt

same10 : map asked part10 ≡ map wanted part10
unfolding part10
same10 = λ j. graph (by-pairs 3 3 (lit≤ tt) ((0 ∷ 1 ∷ 2 ∷ []) ∷ []) Full (0 ∷ 1 ∷ 2 ∷ []) (0 to 1 ∷ 1 to 2 ∷ []) (0 to 1 ∷ 1 to 2 ∷ []) (0 to 1 ∷ 1 to 2 ∷ []) (0 to 0 ∷ 0 to 2 ∷ 1 to 1 ∷ 2 to 2 ∷ []) shortest-agrees j) ∷ []

same11 : map asked part11 ≡ map wanted part11
unfolding part11 story story_g
    ◌and◌ ◌or◌ non bit mem those bits_of some_below least_below every_below is_empty within row_at table_at with_row_in in_row list_from rows_of tables_of
    waits blocker enabled after accepting state_within row_within rows_within relations_within graph_within judged_for judged_with enabled_of stepped_of replay_from replay_of
    opens_with value_of number_at activities_in traces_in offset_at length_at bodies_start events_before
    first_refusal all_below judged_head judged_entry judged_bodies judged_contents judged_log traces_from log_of
    ◌has◌ ◌begins_with◌ at_each_from at_some_from every_trace some_trace
    no_pair no_relations smallest_source ◌without◌ event some_event ◌with◌ at_most_once precedes answers chained together before followed between alternates before_first
    step1 step2 directly_before step3 never_together step4 closes step5 step6 let_in_between makes_redundant step7 reduced step8 included_after never_missed step9 step10
    after_five after_six after_seven after_eight mined graph_from mined_graph
same11 = refl

judged-story : judged story_g ≡ Done
unfolding story_g graph_within relations_within rows_within row_within state_within within is_empty every_below bits_of bit mem those ◌and◌ ◌or◌ non row_at table_at list_from
judged-story = judged-at story_g.head.activities story_g.head.events story_g.head.opening.state story_g.relations refl refl

on-story : (σ : List ℕ) → length σ ≤ longest_trace
    → end (replay_of story_g σ) ≡ end (replay_from story_g.head.events (relations_of story_g) story_g.head.opening.state 0 σ)
on-story σ l = ap end (replay-judged story_g judged-story σ l)

same12 : map asked part12 ≡ map wanted part12
unfolding part12 replay_from enabled waits blocker after accepting some_below least_below bits_of bit mem those ◌and◌ ◌or◌ non row_at table_at with_row_in in_row story_g list_from
same12 = λ i. on-story (0 ∷ 1 ∷ 3 ∷ 2 ∷ []) (lit≤ tt) i ∷ on-story (0 ∷ 1 ∷ 3 ∷ []) (lit≤ tt) i ∷ []

-- THE THEOREM
pub cases : map asked table ≡ map wanted table
unfolding table part0 part1 part2 part3 part4 part5 part6 part7 part8 part9 part10 part11 part12
cases = λ i. same0 i ++ same1 i ++ same2 i ++ same3 i ++ same4 i ++ same5 i ++ same6 i ++ same7 i ++ same8 i ++ same9 i
    ++ same10 i ++ same11 i ++ same12 i
