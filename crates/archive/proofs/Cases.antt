-- The starred cases on certificates of version 1, computed.
-- Assumes nothing.
use mathlib.Core.Path.{refl}
use lib.IntN.{pos, neg_ℤ}
use Rattle.fields.specs.Fields.{twos_complement}
use Rattle.answers.specs.declared.Place.TheVariants.{File, Line as AtLine, Base}
use Rattle.answers.specs.Answer.{accepted, refused}
use Rattle.answers.specs.Checks.{lowest, every}
use Rattle.node.specs.Equations.{type_among, decoded}
use Rattle.node.specs.Layout.{records_of, record_among}
use Rattle.node.specs.Order.{is_among, is_ready, lowest_ready, order_after}
use Rattle.node.specs.Reads.{needed_now, reads as equation_reads, row_for}
use Rattle.node.specs.Rules.{length_ok, fixed_ok, counts_ok, distance_ok, unused_ok, shape_ok, operands_ok, types_ok, property_ok}
use Rattle.node.specs.Table.{row_of}
use Rattle.node.specs.Verdict.{types_verdict, records_verdict, verdict_of as node_verdict}
use Rattle.node.specs.Written.{record_bytes, trailer_bytes, node_file}
use Rattle.constraints.specs.Layout.{used_in, listed_in}
use Rattle.constraints.specs.Linear.{written}
use Rattle.constraints.specs.Rules.{fixed_ok as cert_fixed, counts_ok as cert_counts, distance_ok as cert_distance, constraint_ok, term_ok, used_ok, rises, unused_ok as term_unused}
use Rattle.rules.specs.Literals.{names_atom}
use Rattle.rules.specs.Arithmetic.{sum_of, arithmetic_ok}
use Rattle.rules.specs.Joins.{stands_from, joins, join_ok}
use Rattle.rules.specs.Lines.{slot_ok, numbers_ok, shape_ok as line_shape, base_property_ok, step_property_ok, clause_is, equation_in, kind_fault}
use Rattle.rules.specs.Verdict.{shape_passes, line_fault, parts_verdict, lines_verdict, constraints_verdict, file_verdict, before_lines, verdict_of}
use Rattle.rules.specs.Versions.{version1}
use Rattle.soundness.specs.Files.{at_most, line, certificate_file}
use Rattle.soundness.specs.Starred.{checks, two_bands, constant_true, of_depth, true_and_ints, opposites, bands_whole, step_alone, Holds}
use Rattle.archive.specs.Cases.{archived_cases, ArchivedStarred}

opposites_pass : Holds (checks version1 true_and_ints (opposites version1 (neg_ℤ (pos 1)) (pos 0)) (accepted (record { depth = 1; base = 4; step = 3 })))
unfolding true_and_ints opposites at_most node_file record_bytes trailer_bytes node_verdict records_verdict types_verdict is_among is_ready lowest_ready order_after needed_now equation_reads row_for length_ok fixed_ok counts_ok distance_ok lowest shape_ok unused_ok operands_ok types_ok property_ok row_of records_of record_among twos_complement line certificate_file cert_fixed cert_counts cert_distance verdict_of file_verdict before_lines constraints_verdict parts_verdict lines_verdict every shape_passes line_shape slot_ok numbers_ok names_atom line_fault kind_fault type_among decoded equation_in clause_is base_property_ok step_property_ok listed_in stands_from joins join_ok constraint_ok term_ok used_ok rises term_unused used_in written sum_of arithmetic_ok
opposites_pass = refl

opposites_fail : Holds (checks version1 true_and_ints (opposites version1 (pos 0) (pos 0)) (refused 20 (AtLine 3)))
unfolding true_and_ints opposites at_most node_file record_bytes trailer_bytes node_verdict records_verdict types_verdict is_among is_ready lowest_ready order_after needed_now equation_reads row_for length_ok fixed_ok counts_ok distance_ok lowest shape_ok unused_ok operands_ok types_ok property_ok row_of records_of record_among twos_complement line certificate_file cert_fixed cert_counts cert_distance verdict_of file_verdict before_lines constraints_verdict parts_verdict lines_verdict every shape_passes line_shape slot_ok numbers_ok names_atom line_fault kind_fault type_among decoded equation_in clause_is base_property_ok step_property_ok listed_in stands_from joins join_ok constraint_ok term_ok used_ok rises term_unused used_in written sum_of arithmetic_ok
opposites_fail = refl

depth_8 : Holds (checks version1 constant_true (of_depth version1 8) (accepted (record { depth = 8; base = 17; step = 3 })))
unfolding constant_true of_depth node_file record_bytes trailer_bytes node_verdict records_verdict types_verdict is_among is_ready lowest_ready order_after needed_now equation_reads row_for length_ok fixed_ok counts_ok distance_ok lowest shape_ok unused_ok operands_ok types_ok property_ok row_of records_of record_among twos_complement line certificate_file cert_fixed cert_counts cert_distance verdict_of file_verdict before_lines constraints_verdict parts_verdict lines_verdict every shape_passes line_shape slot_ok numbers_ok names_atom line_fault kind_fault type_among decoded equation_in clause_is base_property_ok step_property_ok listed_in stands_from joins join_ok
depth_8 = refl

depth_9 : Holds (checks version1 constant_true (of_depth version1 9) (refused 13 File))
unfolding constant_true of_depth node_file record_bytes trailer_bytes node_verdict records_verdict types_verdict is_among is_ready lowest_ready order_after needed_now decoded equation_reads row_for length_ok fixed_ok counts_ok distance_ok lowest shape_ok unused_ok operands_ok types_ok property_ok row_of records_of record_among twos_complement line certificate_file cert_fixed cert_counts cert_distance verdict_of file_verdict before_lines
depth_9 = refl

bands_whole_is : Holds (checks version1 two_bands (bands_whole version1) (accepted (record { depth = 1; base = 12; step = 12 })))
unfolding two_bands bands_whole node_file record_bytes trailer_bytes node_verdict records_verdict types_verdict is_among is_ready lowest_ready order_after needed_now equation_reads row_for length_ok fixed_ok counts_ok distance_ok lowest shape_ok unused_ok operands_ok types_ok property_ok row_of records_of record_among twos_complement line certificate_file cert_fixed cert_counts cert_distance verdict_of file_verdict before_lines constraints_verdict parts_verdict lines_verdict every shape_passes line_shape slot_ok numbers_ok names_atom line_fault kind_fault type_among decoded equation_in clause_is base_property_ok step_property_ok listed_in stands_from joins join_ok
bands_whole_is = refl

no_base_lines : Holds (checks version1 two_bands (step_alone version1) (refused 21 Base))
unfolding two_bands step_alone node_file record_bytes trailer_bytes node_verdict records_verdict types_verdict is_among is_ready lowest_ready order_after needed_now equation_reads row_for length_ok fixed_ok counts_ok distance_ok lowest shape_ok unused_ok operands_ok types_ok property_ok row_of records_of record_among twos_complement line certificate_file cert_fixed cert_counts cert_distance verdict_of file_verdict before_lines constraints_verdict parts_verdict lines_verdict every shape_passes line_shape slot_ok numbers_ok names_atom line_fault kind_fault type_among decoded equation_in clause_is base_property_ok step_property_ok listed_in stands_from joins join_ok
no_base_lines = refl

pub archived_starred : ArchivedStarred
unfolding archived_cases
archived_starred = (opposites_pass, (opposites_fail, (depth_8, (depth_9, (bands_whole_is, (no_base_lines, tt))))))
