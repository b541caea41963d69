-- The conditions 12 to 15 of "Where each refusal is met", each as the test that a file passes. 11 is tested as 1 is (node/specs/Rules).
use Rattle.std.specs.Prelude.{ℕ, ◌+◌, ◌-◌, ◌*◌, List, Bool, cond, not, ◌&&◌, ◌||◌, leb, ltb, eqb, ℤ, pos, neg_ℤ, get_or}
use Rattle.answers.specs.Checks.{every}
use Rattle.std.specs.Int.Signed.{le_z}
use Rattle.constraints.specs.declared.layout.Term.{Term}
use Rattle.constraints.specs.declared.layout.Trailer.{Trailer}
use Rattle.constraints.specs.Layout.{Constraint, constraint_at, size_of}

-- 12: fixed bytes. "0x4B, 0x43, version 1 ..; two zero bytes", with the version as given
unfoldable pub fixed_ok : (version : ℕ) → Trailer → Bool
fixed_ok version t = eqb t.first 0x4B && eqb t.second 0x43 && eqb t.version version && eqb t.zeros 0

-- 13: k or constraint count. "depth k (1 to 8)", "counts of constraints (0 to 256)"
unfoldable pub counts_ok : Trailer → Bool
counts_ok t = leb 1 t.depth && leb t.depth 8 && leb t.constraints 256

-- 14: distance, as 4
unfoldable pub distance_ok : Trailer → (size : ℕ) → Bool
distance_ok t size = eqb t.distance (size_of t) && leb t.distance size

-- a node's streams, as a certificate's rules see them: 0 a bool, 1 an int, anything else none
abbrev pub Types : Type 0
Types = ℕ → ℕ

-- those of a list, one a stream
abbrev pub types_of : List ℕ → Types
types_of l x = get_or l x 2

abbrev pub between : (low z high : ℤ) → Bool
between low z high = le_z low z && le_z z high

-- "bound (within ±100,000,000,000)"
abbrev pub bound_limit : ℤ
bound_limit = pos 100000000000

-- "non-zero coefficients within ±1,000,000,000"
abbrev pub coefficient_limit : ℤ
coefficient_limit = pos 1000000000

-- "Used terms name int streams .. and have non-zero coefficients within ±1,000,000,000"; "u8 offset (0 to k), zero byte"
unfoldable pub used_ok : Types → (k : ℕ) → Term → Bool
used_ok types k t =
    eqb (types t.stream) 1
    && leb t.offset k
    && eqb t.zero 0
    && between (neg_ℤ coefficient_limit) t.coefficient coefficient_limit
    && not (between (pos 0) t.coefficient (pos 0))

-- "rise strictly by offset and then stream"
unfoldable pub rises : Term → Term → Bool
rises t u = ltb t.offset u.offset || eqb t.offset u.offset && ltb t.stream u.stream

-- "Unused terms are zero."
unfoldable pub unused_ok : Term → Bool
unused_ok t = eqb t.stream 0 && eqb t.offset 0 && eqb t.zero 0 && between (pos 0) t.coefficient (pos 0)

-- term j of a constraint that uses the first `count`
unfoldable pub term_ok : Types → (k count : ℕ) → (ℕ → Term) → (j : ℕ) → Bool
term_ok types k count term j =
    cond (leb count j) (unused_ok (term j)) (used_ok types k (term j) && (eqb j 0 || rises (term (j - 1)) (term j)))

-- 15: any constraint rule
unfoldable pub constraint_ok : Types → (k : ℕ) → Constraint → Bool
constraint_ok types k c =
    leb c.head.count 8
    && c.head.zeros
    && between (neg_ℤ bound_limit) c.head.bound bound_limit
    && every (term_ok types k c.head.count c.term) 8

-- constraint i of those from an offset on keeps its rules
abbrev pub constraint_passes : Types → (k : ℕ) → List ℕ → (start i : ℕ) → Bool
constraint_passes types k s start i = constraint_ok types k (constraint_at s (start + 80 * i))
