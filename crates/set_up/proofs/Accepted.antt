-- The certificate of set-up is accepted in version 2, and the forged one by half of version 2: computed.
-- Assumes nothing.
use mathlib.Core.Path.{◌≡◌, refl}
use Rattle.fields.specs.Fields.{twos_complement}
use Rattle.answers.specs.Answer.{accepted}
use Rattle.answers.specs.Checks.{lowest, every}
use Rattle.node.specs.Equations.{type_among, decoded}
use Rattle.node.specs.Layout.{records_of, record_among}
use Rattle.node.specs.Order.{is_among, is_ready, lowest_ready, order_after}
use Rattle.node.specs.Reads.{needed_now, reads as equation_reads, row_for}
use Rattle.node.specs.Rules.{length_ok, fixed_ok, counts_ok, distance_ok, unused_ok, shape_ok, operands_ok, types_ok, property_ok}
use Rattle.node.specs.Table.{row_of}
use Rattle.node.specs.Verdict.{types_verdict, records_verdict, verdict_of as node_verdict}
use Rattle.node.specs.Written.{record_bytes, trailer_bytes, node_file}
use Rattle.constraints.specs.Layout.{used_in, listed_in}
use Rattle.constraints.specs.Linear.{written, same_content, agree_at}
use Rattle.constraints.specs.Rules.{fixed_ok as cert_fixed, counts_ok as cert_counts, distance_ok as cert_distance, constraint_ok, term_ok, used_ok, rises, unused_ok as term_unused}
use Rattle.rules.specs.Literals.{names_atom}
use Rattle.rules.specs.Arithmetic.{sum_of, arithmetic_ok}
use Rattle.rules.specs.Joins.{stands_from, joins, join_ok}
use Rattle.rules.specs.Lines.{slot_ok, numbers_ok, shape_ok as line_shape, base_property_ok, step_property_ok, clause_is, equation_in, kind_fault}
use Rattle.rules.specs.Verdict.{shape_passes, line_fault, parts_verdict, lines_verdict, constraints_verdict, file_verdict, before_lines, verdict_of}
use Rattle.rules.specs.Versions.{version2}
use Rattle.rules.specs.Factors.{says_most, is_multiple}
use Rattle.soundness.specs.Files.{at_most, line, certificate_file}
use Rattle.set_up.specs.SetUp.{carried, set_up, forged_set_up, set_up_certificate, halved, forged_certificate}

pub has_certificate : verdict_of version2 set_up set_up_certificate ≡ accepted (record { depth = 1; base = 23; step = 13 })
unfolding carried set_up_certificate at_most node_file record_bytes trailer_bytes node_verdict records_verdict types_verdict is_among is_ready lowest_ready order_after needed_now equation_reads row_for length_ok fixed_ok counts_ok distance_ok lowest shape_ok unused_ok operands_ok types_ok property_ok row_of records_of record_among twos_complement line certificate_file cert_fixed cert_counts cert_distance verdict_of file_verdict before_lines constraints_verdict parts_verdict lines_verdict every shape_passes line_shape slot_ok numbers_ok names_atom line_fault kind_fault type_among decoded equation_in clause_is base_property_ok step_property_ok listed_in stands_from joins join_ok constraint_ok term_ok used_ok rises term_unused used_in written sum_of arithmetic_ok says_most is_multiple same_content agree_at
has_certificate = refl

pub halved_accepts : verdict_of halved forged_set_up forged_certificate ≡ accepted (record { depth = 1; base = 7; step = 13 })
unfolding carried forged_certificate at_most node_file record_bytes trailer_bytes node_verdict records_verdict types_verdict is_among is_ready lowest_ready order_after needed_now equation_reads row_for length_ok fixed_ok counts_ok distance_ok lowest shape_ok unused_ok operands_ok types_ok property_ok row_of records_of record_among twos_complement line certificate_file cert_fixed cert_counts cert_distance verdict_of file_verdict before_lines constraints_verdict parts_verdict lines_verdict every shape_passes line_shape slot_ok numbers_ok names_atom line_fault kind_fault type_among decoded equation_in clause_is base_property_ok step_property_ok listed_in stands_from joins join_ok constraint_ok term_ok used_ok rises term_unused used_in written sum_of arithmetic_ok says_most is_multiple same_content agree_at
halved_accepts = refl
