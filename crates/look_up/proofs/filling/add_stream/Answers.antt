-- `look_up::add_stream` meets its contract.
use mathlib.Core.Path.{◌≡◌, sym, ◌∙◌}
use mathlib.Core.Bool.{true}
use mathlib.Core.List.{List}
use Prim.Native.Nat.{ℕ, ◌*◌, ◌<◌, ◌≤◌}
use native.Mathlib.Omega.{arith}
use lib.IntN.{ℤ}
use lib.ListN.{length}
use Rattle.answers.specs.Answer.{is_accepted}
use Rattle.node.specs.Inputs.{inputs_below, input_count}
use Rattle.node.specs.Layout.{streams_of}
use Rattle.node.specs.Verdict.{verdict_of}
use Rattle.look_up.proofs.Rows.{Adding, adding_few, input_is, added, passed_over}
use Rattle.look_up.proofs.filling.add_stream.Goals as goal

-- what a history and a stream of it say
adding : (file : List ℕ) (n s count : ℕ) (inputs : List ℤ) (m j : ℕ) → is_accepted (verdict_of file) ≡ true → n ≡ streams_of file → m ≡ input_count file → length inputs ≡ count * m → count ≤ 16 → s < n → j ≡ inputs_below file s → Adding file n s count inputs m j
adding file n s count inputs m j accepts streams count_is counted short below number =
    record { accepts = accepts; streams = streams; below = below; number = number; count_is = count_is; counted = counted; short = short }

pub set_stream-requires : goal.set_stream-requires
set_stream-requires c =
    let h = c.args.history.now in
    let a = adding _ _ _ _ _ _ _ h.accepted h.streams h.inputs_each h.counted c.requires.0 c.requires.1 c.requires.2 in
    ((adding_few _ _ _ _ _ _ _ a).0, c.requires.0, c.requires.3.size)

pub overflow_add-result : goal.overflow_add-result
overflow_add-result c =
    let h = c.args.history.now in
    let a = adding _ _ _ _ _ _ _ h.accepted h.streams h.inputs_each h.counted c.requires.0 c.requires.1 c.requires.2 in
    let few = (adding_few _ _ _ _ _ _ _ a).1 in
    omega (arith, few)

pub returns-then-is_input_among : goal.returns-then-is_input_among
returns-then-is_input_among c =
    let h = c.args.history.now in
    let a = adding _ _ _ _ _ _ _ h.accepted h.streams h.inputs_each h.counted c.requires.0 c.requires.1 c.requires.2 in
    added _ _ _ _ _ _ _ a _ c.requires.3 _ (sym (input_is _ _ _ _ _ _ _ a) ∙ sym c.is_input_among.ensures ∙ c.if-is_input_among.true) c.set_stream.ensures

pub returns : goal.returns
returns c =
    let h = c.args.history.now in
    let a = adding _ _ _ _ _ _ _ h.accepted h.streams h.inputs_each h.counted c.requires.0 c.requires.1 c.requires.2 in
    passed_over _ _ _ _ _ _ _ a _ c.requires.3 (sym (input_is _ _ _ _ _ _ _ a) ∙ sym c.is_input_among.ensures ∙ c.if-is_input_among.false)
