-- The ways out of the two functions, each over plain lists.
-- Assumes nothing.
use mathlib.Core.Path.{◌≡◌, refl, sym, ◌∙◌, ap, subst}
use mathlib.Core.Bool.{Bool}
use mathlib.Core.List.{List}
use Prim.Native.Nat.{ℕ, suc, ◌+◌, ◌*◌, ◌<◌, ◌≤◌}
use native.Mathlib.Omega.{arith}
use lib.IntN.{ℤ, pos}
use lib.ListN.{get_or, set}
use Rattle.integers.specs.Range.{checked_of}
use Rattle.answers.specs.Answer.{accepted}
use Rattle.node.specs.Equations.{equation_among, equation_at}
use Rattle.node.specs.Layout.{streams_of, property_of}
use Rattle.node.specs.Verdict.{verdict_of}
use Rattle.node.proofs.Notes.{accepted_sizes}
use Rattle.node.proofs.Outcomes.{is_accepted_is}
use Rattle.streams.specs.Solutions.{Streams}
use Rattle.streams.specs.Values.{truth}
use Rattle.look_up.specs.declared.visits.Visit.{Visit}
use Rattle.look_up.specs.Visits.{first_visit, second_visit, visit_at}
use Rattle.look_up.specs.Visited.{Equations, one, two, VisitedInside}
use Rattle.look_up.specs.Looking.{Outcome, OutcomeTo, over, Obeys, Table, Ready, VisitIn, ReadyTo, Keeps, LookedUp, VisitEarly, Followed, look_rank, visit_rank}
use Rattle.look_up.proofs.Combining.{outside_one, outside_two, answered}
use Rattle.look_up.proofs.Falling.{Falls, few, one_falls, two_falls}
use Rattle.look_up.proofs.Tables.{store}
use Rattle.std.specs.Option.{unwrap_or}
use Rattle.std.specs.Prelude.{None, Option, Some}

-- ---- what is ready

module _ (file : List ℕ) (n t s : ℕ) (ready : Ready file n t s) where
  accepts : verdict_of file ≡ accepted (record { streams = streams_of file; property = property_of file })
  accepts = is_accepted_is file ready.accepts

  below : s < streams_of file
  below = omega (arith, ready.below, ready.count)

  pub in_table : 64 * t + s < 1024
  in_table = let f = few file accepts in omega (arith, f, below, ready.early)

  pub equation_is : equation_among file n s ≡ equation_at file s
  equation_is = ap (λ (k : ℕ). equation_among file k s) (ready.count ∙ sym (accepted_sizes file accepts).records)

-- ---- a visit

to_there : (es : Equations) (v : Streams) (i a : ℕ) (r : Option ℤ) → Outcome es v i a r → OutcomeTo es v (Some (visit_at i a)) r
to_there es v i a (Some x) h = (h.0, λ j r to. subst (λ (k : ℕ). VisitedInside es v k r) (sym to.0) (subst (VisitedInside es v i) (sym to.1) h.1))
to_there es v i a None h = record { instant = i; stream = a; led = (refl, refl); some = h }

module _ (file : List ℕ) (table table' : List (Option ℤ)) where
  pub followed_none : (visit : Option Visit) → visit ≡ None → Followed file visit table table (Some (pos 0))
  followed_none visit e =
      record { shows = λ v k obeys early short is. (is, subst (λ (o : Option Visit). OutcomeTo (equation_at file) v o (Some (pos 0))) (sym e) (refl, λ j r to. absurd to)) }

  pub followed_there : (i a : ℕ) (visit : Option Visit) (r : Option ℤ) → visit ≡ Some (visit_at i a) → LookedUp file i a table table' r → Followed file visit table table' r
  followed_there i a visit r e l =
      record {
        shows = λ v k obeys early short is.
            let s = l.shows v k obeys (subst (λ (o : Option Visit). VisitEarly o k) e early) short is in
            (s.0, subst (λ (o : Option Visit). OutcomeTo (equation_at file) v o r) (sym e) (to_there (equation_at file) v i a r s.1));
      }

-- ---- a look-up

-- what is visited is of the instant or the one before
sooner : (visit : Option Visit) (t k : ℕ) → t < k → VisitEarly visit (suc t) → VisitEarly visit k
sooner None t k l e = tt
sooner (Some o) t k l e = omega (arith, l, e)

module _ (file : List ℕ) (n t s : ℕ) (ready : Ready file n t s) (before : List (Option ℤ)) where
  pub hit : (x : ℤ) → get_or before (64 * t + s) None ≡ Some x → LookedUp file t s before before (Some x)
  hit x e = record { shows = λ v k obeys early short table. (table, table.kept t s early (below file n t s ready) x e) }

  module _ (t₁ : List (Option ℤ)) (o₁ : Option Visit) (r₁ : Option ℤ) (is₁ : o₁ ≡ first_visit (equation_at file s) t) (f₁ : Followed file o₁ before t₁ r₁) where
    early_one : (k : ℕ) → t < k → VisitEarly o₁ k
    early_one k l = subst (λ (o : Option Visit). VisitEarly o k) (sym is₁) (sooner (first_visit (equation_at file s) t) t k l (one_falls file (accepts file n t s ready) t s ready.early (below file n t s ready)).early)

    at_one : (r : Option ℤ) → r₁ ≡ r → Keeps file before t₁ (λ k. t < k) (λ v. OutcomeTo (equation_at file) v (one (equation_at file) t s) r)
    unfolding one
    at_one r e v k obeys early short table =
        let a = f₁.shows v k obeys (early_one k early) short table in
        (a.0, subst (λ (o : Option Visit). OutcomeTo (equation_at file) v o r) is₁ (subst (λ (q : Option ℤ). OutcomeTo (equation_at file) v o₁ q) e a.1))

    pub missed_one : r₁ ≡ None → LookedUp file t s before t₁ None
    missed_one e = record { shows = λ v k obeys early short table. let a = at_one None e v k obeys early short table in (a.0, outside_one (equation_at file) v t s a.1) }

    module _ (x : ℤ) (e₁ : r₁ ≡ Some x) (t₂ : List (Option ℤ)) (o₂ : Option Visit) (r₂ : Option ℤ) (is₂ : o₂ ≡ second_visit (equation_at file s) t (truth x)) (f₂ : Followed file o₂ t₁ t₂ r₂) where
      early_two : (k : ℕ) → t < k → VisitEarly o₂ k
      early_two k l = subst (λ (o : Option Visit). VisitEarly o k) (sym is₂) (sooner (second_visit (equation_at file s) t (truth x)) t k l (two_falls file (accepts file n t s ready) t s (truth x) ready.early (below file n t s ready)).early)

      at_two : (r : Option ℤ) → r₂ ≡ r → (v : Streams) (k : ℕ) → Obeys (equation_at file) (streams_of file) v → t < k → k ≤ 16 → Table (equation_at file) (streams_of file) k v t₁ → OutcomeTo (equation_at file) v (one (equation_at file) t s) (Some x)
          → Table (equation_at file) (streams_of file) k v t₂ × OutcomeTo (equation_at file) v (two (equation_at file) v t s) r
      unfolding two
      at_two r e v k obeys early short table a =
          let b = f₂.shows v k obeys (early_two k early) short table in
          (b.0, subst (λ (o : Option Visit). OutcomeTo (equation_at file) v o r) (is₂ ∙ ap (λ (z : ℤ). second_visit (equation_at file s) t (truth z)) a.0) (subst (λ (q : Option ℤ). OutcomeTo (equation_at file) v o₂ q) e b.1))

      pub missed_two : r₂ ≡ None → LookedUp file t s before t₂ None
      missed_two e =
          record {
            shows = λ v k obeys early short table.
                let a = at_one (Some x) e₁ v k obeys early short table in
                let b = at_two None e v k obeys early short a.0 a.1 in
                (b.0, outside_two (equation_at file) v t s b.1);
          }

      module _ (y : ℤ) (e₂ : r₂ ≡ Some y) (z : Option ℤ) (is : z ≡ checked_of (over (equation_at file s) (unwrap_or (get_or t₂ (64 * t + s) None) (pos 0)) x y)) where
        at_last : (r : Option ℤ) → z ≡ r → Keeps file before t₂ (λ k. t < k) (λ v. Outcome (equation_at file) v t s r)
        at_last r e v k obeys early short table =
            let a = at_one (Some x) e₁ v k obeys early short table in
            let b = at_two (Some y) e₂ v k obeys early short a.0 a.1 in
            (b.0, answered (equation_at file) v t s (streams_of file) obeys (below file n t s ready) (unwrap_or (get_or t₂ (64 * t + s) None) (pos 0)) x y (λ i. ap (λ (r : Option ℤ). unwrap_or r (pos 0)) (b.0.givens t s early (below file n t s ready) i)) a.1 b.1 r (sym e ∙ is))

        pub missed : z ≡ None → LookedUp file t s before t₂ None
        missed e = record { shows = at_last None e }

        pub stored : (w : ℤ) → z ≡ Some w → LookedUp file t s before (set t₂ (64 * t + s) (Some w)) (Some w)
        stored w e =
            record {
              shows = λ v k obeys early short table.
                  let a = at_last (Some w) e v k obeys early short table in
                  (store (equation_at file) (streams_of file) k v t₂ t s w (few file (accepts file n t s ready)) short early (below file n t s ready) a.0 a.1, a.1);
            }

-- ---- what the calls ask

module _ (file : List ℕ) (n t s : ℕ) (ready : Ready file n t s) where
  abbrev Asks : Option Visit → Type 0
  Asks o = (visit_rank file o < look_rank file t s) × ReadyTo file n o

  asks : (o : Option Visit) → Falls file (streams_of file) t s o → Asks o
  asks o f =
      (f.rank, record { accepts = ready.accepts; count = ready.count; within = subst (λ (k : ℕ). VisitIn k o) (sym ready.count) f.within })

  pub ready_one : (o : Option Visit) → o ≡ first_visit (equation_at file s) t → Asks o
  ready_one o e = subst Asks (sym e) (asks (first_visit (equation_at file s) t) (one_falls file (accepts file n t s ready) t s ready.early (below file n t s ready)))

  pub ready_two : (o : Option Visit) (holds : Bool) → o ≡ second_visit (equation_at file s) t holds → Asks o
  ready_two o holds e = subst Asks (sym e) (asks (second_visit (equation_at file s) t holds) (two_falls file (accepts file n t s ready) t s holds ready.early (below file n t s ready)))

pub there_ready : (file : List ℕ) (n i a : ℕ) (visit : Option Visit) → visit ≡ Some (visit_at i a) → ReadyTo file n visit → (look_rank file i a < visit_rank file visit) × Ready file n i a
there_ready file n i a visit e r =
    let q = subst (ReadyTo file n) e r in (
      subst (λ (o : Option Visit). look_rank file i a < visit_rank file o) (sym e) (omega arith),
      record { accepts = q.accepts; count = q.count; early = q.within.0; below = q.within.1 },
    )
