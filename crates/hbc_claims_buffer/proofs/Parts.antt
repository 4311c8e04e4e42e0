-- The part of a buffer that an object speaks of.
use Prim.Native.Nat.{ℕ, ◌+◌, ◌-◌, ◌≤◌}
use mathlib.Core.Path.{◌≡◌, sym, ap, ◌∙◌}
use mathlib.Core.List.{List, []}
use mathlib.Core.Bool.{Bool}
use native.Mathlib.Omega.{arith}
use borrow.Author.Tests.{ne_eqb, le-ltb}
use lib.ListN.{length, take, drop}
use Rattle.std.specs.Prelude.{Ok}
use Rattle.hbc_io.proofs.Exits.{not_given}
use Rattle.hbc_io.specs.Answer.{Answer, gives, refuses}
use Rattle.hbc_buffer.specs.Series.{series_answer, ReadSeries}
use Rattle.hbc_buffer_object.specs.declared.Object.{Object}
use Rattle.hbc_buffer_object.specs.Object.{named, bytes_of, start_of, object_of, object_answer, object_part, ReadObject}
use Rattle.hbc_claims_buffer.specs.Used.{PartIs, PartNone}
use Rattle.hbc_claims_buffer.proofs.Used.{used_within}
use Rattle.hbc_claims_buffer.proofs.Values.{series_none}

-- no bytes from the first place on are none
empty : (s : List ℕ) → bytes_of s 0 0 ≡ []
empty s = rw (le-ltb (length s) 0 (omega arith), le-ltb (length s - 0) 0 (omega arith))

pub part_none : (keys values : List ℕ) (b : Bool) (offset : ℕ) → PartNone keys values b offset
part_none keys values b offset = empty (named b keys values)

taken : (s : List ℕ) (offset count n : ℕ) → (count ≡ 0 → ⊥) → offset + n ≤ length s → bytes_of s (start_of offset count) n ≡ take n (drop offset s)
taken s offset count n some h = rw (ne_eqb _ _ some, le-ltb (length s) offset (omega arith), le-ltb (length s - offset) n (omega arith))

same_object : (o q : Object) → gives o ≡ gives q → o ≡ q
same_object o q e = cc

pub part_is : (keys values : List ℕ) (b : Bool) (offset count : ℕ) {ks ps : List ℕ} {o : Object} {ks' ps' : List ℕ} (n : ℕ)
    → PartIs keys values b offset count ks ps o ks' ps' n
part_is keys values b offset count {ks} {ps} n v some e =
    ap (object_part keys values) (same_object _ _ (v.says ∙ ap (object_answer b offset count) e))
    ∙ taken (named b keys values) offset count n some (used_within (named b keys values) offset count (length ks) (length ps) n some e)

-- ---- an object that was accepted

-- the series gave the object's bytes
pub gave : (b : Bool) (offset count : ℕ) (o : Object) (a : Answer ℕ) → gives o ≡ object_answer b offset count a → (a ≡ gives o.len) × (o ≡ object_of b offset count o.len)
gave b offset count o (gives n) e =
    let p = same_object o (object_of b offset count n) e in
    let l : n ≡ o.len = sym (ap (λ (x : Object). x.len) p) in
    (ap gives l, p ∙ ap (object_of b offset count) l)
gave b offset count o (refuses r) e = absurd (not_given (sym e))

start_some : (offset count : ℕ) → (count ≡ 0 → ⊥) → start_of offset count ≡ offset
start_some offset count some = rw (ne_eqb _ _ some)

module _ (keys values : List ℕ) (b : Bool) (offset count : ℕ) (ks ps : List ℕ) (o : Object) (ks' ps' : List ℕ)
    (v : ReadObject keys values b offset count ks ps (Ok o) ks' ps') where
  object_gave : (series_answer (named b keys values) offset count (length ks) (length ps) ≡ gives o.len) × (o ≡ object_of b offset count o.len)
  object_gave = gave b offset count o _ v.says

  -- its words are those of a series of its bytes
  pub object_series : ReadSeries (named b keys values) offset count ks ps (Ok o.len) ks' ps'
  object_series = record { says = sym object_gave.0; leaves = v.leaves }

  -- it names the buffer that was asked for
  pub object_names : o.«yes» ≡ b
  object_names = ap (λ (x : Object). x.«yes») object_gave.1

  -- and its bytes there
  pub object_some : (count ≡ 0 → ⊥) → (o.start ≡ offset) × (object_part keys values o ≡ take o.len (drop offset (named b keys values)))
  object_some some =
      (ap (λ (x : Object). x.start) object_gave.1 ∙ start_some offset count some, part_is keys values b offset count o.len v some object_gave.0)

  pub object_none : count ≡ 0 → (o.start ≡ 0) × (object_part keys values o ≡ [])
  object_none e =
      let s : o.start ≡ 0 = ap (λ (x : Object). x.start) object_gave.1 ∙ ap (start_of offset) e in
      let n : o.len ≡ 0 = series_none (named b keys values) offset count ks ps o.len ks' ps' object_series e in
      (s, rw (s, n) (empty (named o.«yes» keys values)))
