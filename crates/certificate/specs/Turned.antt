-- What the code of a turn gives, as the rules have it.
use Rattle.rules.specs.Turns.{Turn, begun_line}
use Rattle.certificate.specs.declared.turned.Progress.{Progress}
use Rattle.certificate.specs.declared.turned.Turned.{Turned}

abbrev pub begun : Progress
begun = record { line = begun_line }

abbrev pub as_turn : Turned → Turn
as_turn t = record { answer = t.verdict; line = t.progress.line; checked = t.checked }
