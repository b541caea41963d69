-- What comes before the checks of lines: which rules have passed, and what was read of them is at hand.
use Rattle.std.specs.Prelude.{ℕ, ◌≡◌, true, List}
use Rattle.node.specs.Layout.{streams_of, property_of}
use Rattle.node.specs.Outcome.{NodeRules}
use Rattle.constraints.specs.declared.layout.Trailer.{Trailer}
use Rattle.constraints.specs.Layout.{trailer_of}
use Rattle.answers.specs.Answer.{Answer, answer_map}
use Rattle.rules.specs.Note.{file_ok}
use Rattle.rules.specs.Versions.{version2}

-- rules 1 to 8 and 23 have passed, and the node's sizes are at hand
pub record NodePassed (node : List ℕ) (n property : ℕ) : Type 0 where
  pub streams : n ≡ streams_of node
  pub property_is : property ≡ property_of node
  pub node_rules : NodeRules node

-- rules 11 to 14 have passed, and the trailer is at hand
pub record FilePassed (cert : List ℕ) (t : Trailer) : Type 0 where
  pub trailer : t ≡ trailer_of cert
  pub file : file_ok version2 cert ≡ true

-- the opening of a certificate: its trailer where 11 to 15 pass, else their refusal
abbrev pub opening_of : Trailer → Answer (Unit {0}) → Answer Trailer
opening_of t = answer_map (λ _. t)
