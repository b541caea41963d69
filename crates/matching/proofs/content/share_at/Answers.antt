-- `matching::share_at` meets its contract: the term as it was read, its coefficient of 32 bits.
use mathlib.Core.Path.{◌≡◌, ◌∙◌, ap}
use Prim.Native.Nat.{ℕ, ◌+◌, ◌*◌}
use native.Mathlib.Omega.{arith}
use mir.Syntax.{w64}
use mir.Facts.{to_z-of_z}
use Rattle.integers.proofs.Reading.{rd}
use Rattle.constraints.specs.declared.layout.Term.{Term}
use Rattle.constraints.specs.Layout.{term_at}
use Rattle.constraints.specs.Linear.{monomial}
use Rattle.matching.specs.Content.{share}
use Rattle.matching.proofs.Coefficients.{share_limit, share_read, word_limit}
use Rattle.matching.proofs.content.share_at.Goals as goal

pub returns : goal.returns
returns c =
    let exact : (let s = c.args in rd w64 c.share.result ≡ share (monomial (term_at s.file.now s.at s.j)) s.x) = let s = c.args in
    to_z-of_z {w = w64} (record { sfits = c.share.type_inv })
    ∙ c.share.ensures
    ∙ share_read _ _ s.x (record { sfits = c.struct_told-1.given.1.1.1.0.1 })
    ∙ ap (λ (v : ℕ). share (record { of = v; times = c.term_at-term.result.coefficient }) s.x) c.var.ensures
    ∙ ap (λ (t : Term). share (monomial t) s.x) c.term_at-term.ensures in
    let s = c.args in
    let bytes = c.shared_slice_known-1.given in (
      exact,
      rw exact (share_limit (monomial (term_at s.file.now s.at s.j)) s.x 2147483648 (word_limit s.file.now (s.at + 16 + 8 * s.j + 4) (λ i. omega (arith, bytes i)))),
    )
