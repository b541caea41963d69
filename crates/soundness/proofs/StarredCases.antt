-- The starred cases: what is claimed of each is computed, or follows from what is computed.
-- Assumes nothing.
use mathlib.Core.Path.{◌≡◌, refl, sym, ◌∙◌, ap}
use mathlib.Core.List.{List, [], ◌∷◌}
use native.Mathlib.Nat.{not-suc-le-zero}
use lib.IntN.{ℤ, pos, neg_ℤ}
use lib.ListN.{replicate, length-replicate}
use Rattle.integers.specs.Range.{inside}
use Rattle.fields.specs.Fields.{twos_complement}
use Rattle.answers.specs.declared.Place.TheVariants.{File, Record as AtRecord, Line as AtLine, Base}
use Rattle.answers.specs.Answer.{Answer, accepted, refused, if_accepted}
use Rattle.answers.specs.declared.NodeValues.{NodeValues}
use Rattle.answers.specs.Checks.{lowest, every}
use Rattle.node.specs.Equations.{type_among, decoded}
use Rattle.node.specs.Inputs.{inputs_below}
use Rattle.node.specs.Layout.{streams_of, records_of, record_among}
use Rattle.node.specs.Note.{note_length}
use Rattle.node.specs.Order.{is_among, is_ready, lowest_ready, order_after}
use Rattle.node.specs.Reads.{needed_now, reads as equation_reads, row_for}
use Rattle.node.specs.Rules.{length_ok, fixed_ok, counts_ok, distance_ok, unused_ok, shape_ok, operands_ok, types_ok, property_ok}
use Rattle.node.specs.Table.{row_of}
use Rattle.node.specs.Verdict.{types_verdict, records_verdict, verdict_of as node_verdict}
use Rattle.node.specs.Written.{record_bytes, trailer_bytes, node_file}
use Rattle.constraints.specs.Layout.{used_in, listed_in}
use Rattle.constraints.specs.Linear.{written}
use Rattle.constraints.specs.Rules.{fixed_ok as cert_fixed, counts_ok as cert_counts, distance_ok as cert_distance, constraint_ok, term_ok, used_ok, rises, unused_ok as term_unused}
use Rattle.rules.specs.Literals.{names_atom}
use Rattle.rules.specs.Arithmetic.{sum_of, arithmetic_ok}
use Rattle.rules.specs.Joins.{stands_from, joins, join_ok}
use Rattle.rules.specs.Lines.{slot_ok, numbers_ok, shape_ok as line_shape, base_property_ok, step_property_ok, clause_is, equation_in, kind_fault}
use Rattle.rules.specs.Verdict.{shape_passes, line_fault, parts_verdict, lines_verdict, constraints_verdict, file_verdict, before_lines, verdict_of}
use Rattle.rules.specs.Versions.{version1, version2}
use Rattle.streams.specs.Evaluation.{evaluated, instant}
use Rattle.streams.specs.Instant.{input_fits, instant_of, first_of}
use Rattle.streams.specs.Values.{equals, truth, values_in}
use Rattle.session.specs.Instants.{worked_out, answer_of, slice_of}
use Rattle.session.specs.Lists.{Call}
use Rattle.session.specs.Records.{begun, holds_node}
use Rattle.session.proofs.CallAnswers.{answered_typed}
use Rattle.session.proofs.JustBegun.{begun_stands}
use Rattle.session.proofs.Standing.{worked_out_is}
use Rattle.soundness.specs.Files.{at_most, line, certificate_file}
use Rattle.soundness.specs.Starred.{FirstCall, Answers, checks, reads, refuses, two_bands, doubling, of_size, constant_true, of_depth, true_and_ints, opposites, bands_whole, step_alone, both_asked, greatest_doubled, least_doubled, cases, Holds, Starred}

-- what is computed of a first call: the verdict on its file, the answer and the values
record Computed (c : FirstCall) : Type 0 where
  node : NodeValues
  is_accepted_is : node_verdict c.file ≡ accepted node
  answered : answer_of (begun c.file) c.inputs (streams_of c.file) ≡ accepted tt
  values : worked_out (begun c.file) c.inputs ≡ c.values

-- the rest is what holds of every just begun session
answers_by : (c : FirstCall) → Computed c → Answers c
unfolding slice_of
answers_by c known =
    let file = c.file in
    let s = begun file in
    let n = streams_of file in
    let stands = begun_stands file known.is_accepted_is in
    let own : Call = record { inputs = c.inputs; slice = replicate n (pos 0) } in
    record {
      node = known.node;
      is_accepted_is = known.is_accepted_is;
      typed =
          answered_typed file known.is_accepted_is own [] s stands
          (ap (answer_of s c.inputs) (length-replicate n (pos 0)) ∙ known.answered);
      answered = known.answered;
      left = λ slice long.
          ap (λ (a : Answer (Unit {0})). if_accepted a (worked_out s c.inputs) slice) (ap (answer_of s c.inputs) long ∙ known.answered)
          ∙ known.values;
      solved = λ u v solves start i l.
          ap (λ (values : List ℤ). values_in values i) (sym known.values)
          ∙ worked_out_is file known.is_accepted_is [] s stands c.inputs u (λ j m. absurd (not-suc-le-zero m)) start v solves i l;
    }

both_asked_is : Computed both_asked
unfolding two_bands node_file record_bytes trailer_bytes node_verdict records_verdict types_verdict is_among is_ready lowest_ready order_after needed_now equation_reads row_for length_ok fixed_ok counts_ok distance_ok lowest shape_ok unused_ok operands_ok types_ok property_ok row_of records_of record_among twos_complement every type_among decoded inputs_below note_length evaluated instant first_of equals truth input_fits instant_of answer_of holds_node inside
both_asked_is = record { node = record { streams = 6; property = 5 }; is_accepted_is = refl; answered = refl; values = refl }

greatest_doubled_is : Computed greatest_doubled
unfolding doubling node_file record_bytes trailer_bytes node_verdict records_verdict types_verdict is_among is_ready lowest_ready order_after needed_now equation_reads row_for length_ok fixed_ok counts_ok distance_ok lowest shape_ok unused_ok operands_ok types_ok property_ok row_of records_of record_among twos_complement every type_among decoded inputs_below note_length evaluated instant first_of equals truth input_fits instant_of answer_of holds_node inside
greatest_doubled_is = record { node = record { streams = 3; property = 2 }; is_accepted_is = refl; answered = refl; values = refl }

one_more : Holds (refuses doubling (pos 4611686018427387904 ∷ []) 34 (AtRecord 1))
unfolding doubling node_file record_bytes trailer_bytes node_verdict records_verdict types_verdict is_among is_ready lowest_ready order_after needed_now equation_reads row_for length_ok fixed_ok counts_ok distance_ok lowest shape_ok unused_ok operands_ok types_ok property_ok row_of records_of record_among twos_complement every type_among decoded inputs_below note_length evaluated instant first_of equals truth input_fits instant_of answer_of holds_node inside
one_more = refl

least_doubled_is : Computed least_doubled
unfolding doubling node_file record_bytes trailer_bytes node_verdict records_verdict types_verdict is_among is_ready lowest_ready order_after needed_now equation_reads row_for length_ok fixed_ok counts_ok distance_ok lowest shape_ok unused_ok operands_ok types_ok property_ok row_of records_of record_among twos_complement every type_among decoded inputs_below note_length evaluated instant first_of equals truth input_fits instant_of answer_of holds_node inside
least_doubled_is = record { node = record { streams = 3; property = 2 }; is_accepted_is = refl; answered = refl; values = refl }

opposites_pass : Holds (checks version2 true_and_ints (opposites version2 (neg_ℤ (pos 1)) (pos 0)) (accepted (record { depth = 1; base = 6; step = 3 })))
unfolding true_and_ints opposites at_most node_file record_bytes trailer_bytes node_verdict records_verdict types_verdict is_among is_ready lowest_ready order_after needed_now equation_reads row_for length_ok fixed_ok counts_ok distance_ok lowest shape_ok unused_ok operands_ok types_ok property_ok row_of records_of record_among twos_complement line certificate_file cert_fixed cert_counts cert_distance verdict_of file_verdict before_lines constraints_verdict parts_verdict lines_verdict every shape_passes line_shape slot_ok numbers_ok names_atom line_fault kind_fault type_among decoded equation_in clause_is base_property_ok step_property_ok listed_in stands_from joins join_ok constraint_ok term_ok used_ok rises term_unused used_in written sum_of arithmetic_ok
opposites_pass = refl

opposites_fail : Holds (checks version2 true_and_ints (opposites version2 (pos 0) (pos 0)) (refused 20 (AtLine 5)))
unfolding true_and_ints opposites at_most node_file record_bytes trailer_bytes node_verdict records_verdict types_verdict is_among is_ready lowest_ready order_after needed_now equation_reads row_for length_ok fixed_ok counts_ok distance_ok lowest shape_ok unused_ok operands_ok types_ok property_ok row_of records_of record_among twos_complement line certificate_file cert_fixed cert_counts cert_distance verdict_of file_verdict before_lines constraints_verdict parts_verdict lines_verdict every shape_passes line_shape slot_ok numbers_ok names_atom line_fault kind_fault type_among decoded equation_in clause_is base_property_ok step_property_ok listed_in stands_from joins join_ok constraint_ok term_ok used_ok rises term_unused used_in written sum_of arithmetic_ok
opposites_fail = refl

depth_8 : Holds (checks version2 constant_true (of_depth version2 8) (accepted (record { depth = 8; base = 19; step = 3 })))
unfolding constant_true of_depth node_file record_bytes trailer_bytes node_verdict records_verdict types_verdict is_among is_ready lowest_ready order_after needed_now equation_reads row_for length_ok fixed_ok counts_ok distance_ok lowest shape_ok unused_ok operands_ok types_ok property_ok row_of records_of record_among twos_complement line certificate_file cert_fixed cert_counts cert_distance verdict_of file_verdict before_lines constraints_verdict parts_verdict lines_verdict every shape_passes line_shape slot_ok numbers_ok names_atom line_fault kind_fault type_among decoded equation_in clause_is base_property_ok step_property_ok listed_in stands_from joins join_ok
depth_8 = refl

depth_9 : Holds (checks version2 constant_true (of_depth version2 9) (refused 13 File))
unfolding constant_true of_depth node_file record_bytes trailer_bytes node_verdict records_verdict types_verdict is_among is_ready lowest_ready order_after needed_now decoded equation_reads row_for length_ok fixed_ok counts_ok distance_ok lowest shape_ok unused_ok operands_ok types_ok property_ok row_of records_of record_among twos_complement line certificate_file cert_fixed cert_counts cert_distance verdict_of file_verdict before_lines
depth_9 = refl

size_64 : Holds (reads (of_size 64) (accepted (record { streams = 64; property = 0 })))
unfolding of_size node_file record_bytes trailer_bytes node_verdict records_verdict types_verdict is_among is_ready lowest_ready order_after needed_now decoded equation_reads row_for length_ok fixed_ok counts_ok distance_ok lowest shape_ok unused_ok operands_ok types_ok property_ok row_of records_of record_among twos_complement
size_64 = refl

size_65 : Holds (reads (of_size 65) (refused 3 File))
unfolding of_size node_file record_bytes trailer_bytes node_verdict records_verdict types_verdict is_among is_ready lowest_ready order_after needed_now decoded equation_reads row_for length_ok fixed_ok counts_ok distance_ok lowest shape_ok unused_ok operands_ok types_ok property_ok row_of records_of record_among twos_complement
size_65 = refl

bands_whole_is : Holds (checks version2 two_bands (bands_whole version2) (accepted (record { depth = 1; base = 23; step = 12 })))
    × Holds (checks version2 two_bands (bands_whole version1) (refused 12 File))
unfolding two_bands bands_whole node_file record_bytes trailer_bytes node_verdict records_verdict types_verdict is_among is_ready lowest_ready order_after needed_now equation_reads row_for length_ok fixed_ok counts_ok distance_ok lowest shape_ok unused_ok operands_ok types_ok property_ok row_of records_of record_among twos_complement line certificate_file cert_fixed cert_counts cert_distance verdict_of file_verdict before_lines constraints_verdict parts_verdict lines_verdict every shape_passes line_shape slot_ok numbers_ok names_atom line_fault kind_fault type_among decoded equation_in clause_is base_property_ok step_property_ok listed_in stands_from joins join_ok
bands_whole_is = (refl, refl)

no_base_lines : Holds (checks version2 two_bands (step_alone version2) (refused 21 Base))
unfolding two_bands step_alone node_file record_bytes trailer_bytes node_verdict records_verdict types_verdict is_among is_ready lowest_ready order_after needed_now equation_reads row_for length_ok fixed_ok counts_ok distance_ok lowest shape_ok unused_ok operands_ok types_ok property_ok row_of records_of record_among twos_complement line certificate_file cert_fixed cert_counts cert_distance verdict_of file_verdict before_lines constraints_verdict parts_verdict lines_verdict every shape_passes line_shape slot_ok numbers_ok names_atom line_fault kind_fault type_among decoded equation_in clause_is base_property_ok step_property_ok listed_in stands_from joins join_ok
no_base_lines = refl

pub starred : Starred
unfolding cases
starred =
    (answers_by both_asked both_asked_is, (refl, (refl, (answers_by greatest_doubled greatest_doubled_is, (one_more, (answers_by least_doubled least_doubled_is, (opposites_pass, (opposites_fail, (depth_8, (depth_9, (size_64, (size_65, (bands_whole_is.0, (no_base_lines, (bands_whole_is.1, tt)))))))))))))))
