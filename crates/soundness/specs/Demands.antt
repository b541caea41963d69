-- Demand 3, whole: what an accepted certificate gives of its node, of a beginning on it, and of every list of events after that.
use Rattle.std.specs.Prelude.{ℕ, ◌<◌, ◌≡◌, List, pos, length}
use Rattle.answers.specs.Answer.{accepted, final}
use Rattle.answers.specs.declared.CertificateValues.{CertificateValues}
use Rattle.node.specs.Layout.{streams_of, property_of}
use Rattle.node.specs.Reads.{All}
use Rattle.node.specs.Verdict.{verdict_of as node_verdict}
use Rattle.rules.specs.Turns.{begun_line, turn_of, line_after}
use Rattle.rules.specs.Verdict.{verdict_of}
use Rattle.rules.specs.Versions.{Version, version2}
use Rattle.streams.specs.Theorems.{OneSolution}
use Rattle.streams.specs.Values.{values_in}
use Rattle.session.specs.declared.Session.{Session}
use Rattle.session.specs.Events.{Event, Run, begun_run, runs}
use Rattle.session.specs.Lists.{Call, Answered, answered, call}
use Rattle.session.specs.Records.{begun_of}
use Rattle.session.specs.Theorems.{Shows, RunShows}
use Rattle.rules.specs.Theorems.{PropertyHolds}

-- "the property's number is 1", in the slice of each of these answered calls
abbrev pub ShowsProperty : (node : List ℕ) → List Answered → Type 0
ShowsProperty node done = (t : ℕ) → t < length done → values_in (call done t).values (property_of node) ≡ pos 1

-- .. and in every answered trial's: "On a node with an accepted certificate a trial too shows the property true."
pub record RunProperty (node : List ℕ) (r : Run) : Type 0 where
  pub commits : ShowsProperty node r.done
  pub trials : All (ShowsProperty node) r.tried

pub record Demanded (node : List ℕ) (before : Session) (events : List Event) : Type 0 where
  -- on all endless typed inputs the node has exactly one solution, over whole numbers
  pub one_solution : OneSolution node
  -- in it the property is true at every instant
  pub property : PropertyHolds node
  -- the beginning is answered, whatever the record held before it
  pub begins : node_verdict node ≡ accepted (record { streams = streams_of node; property = property_of node })
  -- the list's answered commits and trials leave that solution's values: "This is one claim about the list as a whole and not a claim
  -- for each call." Where the list begins anew, on this file or on another, the values are those of a solution of the file begun on
  pub shows : All RunShows (runs (begun_of node before) (begun_run node) events)
  pub shows_property : All (λ r. r.node ≡ node → RunProperty node r) (runs (begun_of node before) (begun_run node) events)

-- "a certificate is accepted for a node if a call given both files answers so": whatever bytes these hold, whatever the record held
-- before the beginning, whatever the events
abbrev pub DemandFor : Version → Type 0
DemandFor version =
    (node cert : List ℕ) (v : CertificateValues) → verdict_of version node cert ≡ accepted v
    → (before : Session) (events : List Event) → Demanded node before events

-- of the version that is checked
abbrev pub Demand3 : Type 0
Demand3 = DemandFor version2

-- "Only such an acceptance, or that of one call, is one in the demands.": that of a turn on these two files, with any quota, of a record that was
-- begun and that a turn on them for each of any quotas has handed on
abbrev pub TurnsDemandFor : Version → Type 0
TurnsDemandFor version =
    (node cert : List ℕ) (quotas : List ℕ) (quota : ℕ) (v : CertificateValues)
    → (turn_of version node cert (line_after version node cert begun_line quotas) quota).answer ≡ final (accepted v)
    → (before : Session) (events : List Event) → Demanded node before events

abbrev pub TurnsDemand3 : Type 0
TurnsDemand3 = TurnsDemandFor version2

-- the same of the old call alone, as it stood before trials
pub record CallsDemanded (node : List ℕ) (before : Session) (calls : List Call) : Type 0 where
  pub one_solution : OneSolution node
  pub property : PropertyHolds node
  pub begins : node_verdict node ≡ accepted (record { streams = streams_of node; property = property_of node })
  pub shows : Shows node (answered (begun_of node before) calls)
  pub shows_property : ShowsProperty node (answered (begun_of node before) calls)

abbrev pub CallsDemandFor : Version → Type 0
CallsDemandFor version =
    (node cert : List ℕ) (v : CertificateValues) → verdict_of version node cert ≡ accepted v
    → (before : Session) (calls : List Call) → CallsDemanded node before calls
