-- The session record: "The caller lends the session record, and an answered instant moves that very record on." A trial is kept in it
-- "without advancing".
use Rattle.std.specs.Prelude.{ℕ, List, Bool, ◌&&◌, ◌||◌, leb, eqb, ℤ, pos, length, take, replicate}
use Rattle.answers.specs.Answer.{if_accepted, is_accepted}
use Rattle.answers.specs.Checks.{every}
use Rattle.node.specs.Equations.{type_at}
use Rattle.node.specs.Layout.{streams_of}
use Rattle.node.specs.Note.{without_note}
use Rattle.node.specs.Verdict.{verdict_of}
use Rattle.streams.specs.Instant.{filled}
use Rattle.streams.specs.Typing.{fits_test}
use Rattle.streams.specs.Values.{values_in}
use Rattle.session.specs.declared.Session.{Session}

-- "Beginning takes a node file, checked by 1 to 8, and sets the record to its node, before instant 0"; it holds no trial. What the
-- last values are before instant 0, and the trial's where none is held, is free in the papers: they are 0.
abbrev pub begun : (file : List ℕ) → Session
begun file =
    record {
      length = length (without_note file);
      last = replicate 64 (pos 0);
      trial = replicate 64 (pos 0);
      file = filled 1040 0 (without_note file);
      started = 0;
      held = 0;
      spare = replicate 6 0;
    }

-- the record after a beginning
unfoldable pub begun_of : (file : List ℕ) → (before : Session) → Session
begun_of file before = if_accepted (verdict_of file) (begun file) before

-- the node file that the record holds
abbrev pub held_file : Session → List ℕ
held_file s = take s.length s.file

-- before instant 0: any other byte says that an instant was committed
abbrev pub unstarted : Session → Bool
unstarted s = eqb s.started 0

-- no trial is held: any other byte says that one is
abbrev pub untried : Session → Bool
untried s = eqb s.held 0

-- value i of a list fits the type of stream i
abbrev pub value_typed : (file : List ℕ) → (values : List ℤ) → (i : ℕ) → Bool
value_typed file values i = fits_test (type_at file i) (values_in values i)

-- each bool among the values is "0 or 1", unless there are none to look at
abbrev pub typed_unless : (none : Bool) → (file : List ℕ) → (values : List ℤ) → Bool
typed_unless none file values = none || every (value_typed file values) (streams_of file)

-- a node "passing 1 to 8", and the bools of the last instant, past instant 0, and of a held trial
abbrev pub is_node : (file : List ℕ) → (first : Bool) → (last : List ℤ) → (free : Bool) → (trial : List ℤ) → Bool
is_node file first last free trial =
    is_accepted (verdict_of file) && (typed_unless first file last && typed_unless free file trial)

-- the first bytes of a record's file are such a node
abbrev pub holds : (file : List ℕ) → (size : ℕ) → (first : Bool) → (last : List ℤ) → (free : Bool) → (trial : List ℤ) → Bool
holds file size first last free trial = leb size 1040 && is_node (take size file) first last free trial

-- 30: "record holds no node passing 1 to 8, or, past instant 0, a bool of the last answered instant is not 0 or 1"; it "looks at a
-- held trial's bools too"
unfoldable pub holds_node : Session → Bool
holds_node s = holds s.file s.length (unstarted s) s.last (untried s) s.trial
