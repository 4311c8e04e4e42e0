-- A function that does not meet the span is the same in two files that are the same outside it; and one that is read has its header in the file.
use Rattle.hbc_io.specs.declared.Reason.TheVariants as reason
use Rattle.std.specs.Prelude.{Option, Some, None, Ok, Err}
use Prim.Native.Nat.{ℕ, ◌+◌, ◌*◌, ◌/◌, ◌≤◌}
use mathlib.Core.Path.{◌≡◌, refl, ap, sym, ◌∙◌}
use mathlib.Core.List.{List}
use mathlib.Core.Bool.{Bool, true, false, cond}
use native.Mathlib.Omega.{arith}
use native.Mathlib.Nat.{le_refl}
use lib.ListN.{length}
use lib.Dec.{ltb}
use borrow.Author.Tests.{ltb-false}
use Rattle.hbc_io.specs.Lends.{below}
use Rattle.hbc_bits.specs.Bits.{le_at}
use Rattle.hbc_function_record.specs.declared.Layout.{Layout}
use Rattle.hbc_function_record.specs.declared.Layout.TheVariants as lay
use Rattle.hbc_function_record.specs.declared.Record.{Record}
use Rattle.hbc_function_record.specs.declared.Record.TheVariants as rec
use Rattle.hbc_function_header.specs.declared.Ground.{Ground}
use Rattle.hbc_function_header.specs.declared.Ground.TheVariants as ground
use Rattle.hbc_io.specs.Answer.{gives, asked}
use Rattle.hbc_function_record.specs.Record.{size_of, large_of, inline_of, large_at, link_of, legacy_large, modern_large}
use Rattle.hbc_function_record.specs.Row.{found_at, inline_found}
use Rattle.hbc_function_header.specs.Header.{header_at, ground_by, ground_of, ground_at, where_of, where_at, found, record_at, function_at}
use Rattle.hbc_function_header.specs.Meets.{overlap, ground_meets, meets}
use Rattle.hbc_claims_law.specs.Terms.{Same}
use Rattle.hbc_claims_function.specs.Agree.{Agree}
use Rattle.hbc_claims_function.specs.Panes.{SameBut}
use Rattle.hbc_claims_function.proofs.Truths.{or_left, or_right}
use Rattle.hbc_claims_function.proofs.Agree.{agrees, but_one, same_num}

module _ (a b : List ℕ) (at i : ℕ) where
  legacy_large_lem : Agree a b at (at + large_of lay.Legacy16) → legacy_large a at i ≡ legacy_large b at i
  unfolding legacy_large
  legacy_large_lem v = λ j. record {
    id = i;
    offset = same_num v at 4 (omega arith) (omega arith) j;
    param_count = same_num v (at + 4) 4 (omega arith) (omega arith) j;
    size = same_num v (at + 8) 4 (omega arith) (omega arith) j;
    name = same_num v (at + 12) 4 (omega arith) (omega arith) j;
    info_offset = same_num v (at + 16) 4 (omega arith) (omega arith) j;
    frame_size = same_num v (at + 20) 4 (omega arith) (omega arith) j;
    environment_size = same_num v (at + 24) 4 (omega arith) (omega arith) j;
    read = same_num v (at + 28) 1 (omega arith) (omega arith) j;
    write = same_num v (at + 29) 1 (omega arith) (omega arith) j;
    flags = same_num v (at + 30) 1 (omega arith) (omega arith) j;
  }

  modern_large_lem : Agree a b at (at + large_of lay.Modern12) → modern_large a at i ≡ modern_large b at i
  unfolding modern_large
  modern_large_lem v = λ j. record {
    id = i;
    offset = same_num v at 4 (omega arith) (omega arith) j;
    param_count = same_num v (at + 4) 4 (omega arith) (omega arith) j;
    loop_depth = same_num v (at + 8) 4 (omega arith) (omega arith) j;
    size = same_num v (at + 12) 4 (omega arith) (omega arith) j;
    name = same_num v (at + 16) 4 (omega arith) (omega arith) j;
    number_reg = same_num v (at + 20) 4 (omega arith) (omega arith) j;
    non_ptr_reg = same_num v (at + 24) 4 (omega arith) (omega arith) j;
    frame_size = same_num v (at + 28) 4 (omega arith) (omega arith) j;
    read_cache = same_num v (at + 32) 1 (omega arith) (omega arith) j;
    write_cache = same_num v (at + 33) 1 (omega arith) (omega arith) j;
    new_object = same_num v (at + 34) 1 (omega arith) (omega arith) j;
    private_name = same_num v (at + 35) 1 (omega arith) (omega arith) j;
    flags = same_num v (at + 36) 1 (omega arith) (omega arith) j;
    info_offset = (at + large_of lay.Modern12 + 3) / 4 * 4;
  }

large_same : (a b : List ℕ) (layout : Layout) (at i : ℕ) → Agree a b at (at + large_of layout) → large_at a layout at i ≡ large_at b layout at i
unfolding large_at
large_same a b lay.Legacy16 at i v = ap rec.Legacy (legacy_large_lem a b at i v)
large_same a b lay.Modern12 at i v = ap rec.Modern (modern_large_lem a b at i v)

-- ---- two files that agree on all that a function is read from

-- on its own header, and on a large header that it is flagged for
abbrev pub OnGround : List ℕ → List ℕ → Layout → Option Ground → Type 0
OnGround a b layout None = Unit {0}
OnGround a b layout (Some (ground.Inline at)) = Agree a b at (at + size_of layout)
OnGround a b layout (Some (ground.Large at place)) = Agree a b at (at + size_of layout) × Agree a b place (place + large_of layout)

own_agrees : (a b : List ℕ) (layout : Layout) (at : ℕ) (l : Option ℕ) → OnGround a b layout (Some (ground_by at l)) → Agree a b at (at + size_of layout)
own_agrees a b layout at None v = v
own_agrees a b layout at (Some place) v = v.0

where-same : (a b : List ℕ) (m : ℕ) (g : Option Ground) → length a ≡ length b → where_of a m g ≡ where_of b m g
unfolding where_of below
where-same a b m None e = refl
where-same a b m (Some (ground.Inline at)) e = refl
where-same a b m (Some (ground.Large at place)) e = rw e

-- what is found is the same in both
module _ (a b : List ℕ) (layout : Layout) (at i : ℕ) (e : le_at a at (size_of layout) ≡ le_at b at (size_of layout)) where
  large_found_lem : (place : ℕ) → Agree a b place (place + large_of layout) → (past cut : Bool)
      → found a layout at i (cond past (Err reason.PastEnd) (cond cut (Err reason.Cut) (Ok (Some place)))) ≡ found b layout at i (cond past (Err reason.PastEnd) (cond cut (Err reason.Cut) (Ok (Some place))))
  large_found_lem place v true cut = refl
  large_found_lem place v false true = refl
  large_found_lem place v false false = ap (λ (r : Record). gives (found_at place r)) (large_same a b layout place i v)

  same_found : (l : Option ℕ) → OnGround a b layout (Some (ground_by at l))
      → found a layout at i (where_of b (large_of layout) (Some (ground_by at l))) ≡ found b layout at i (where_of b (large_of layout) (Some (ground_by at l)))
  unfolding where_of below
  same_found None v = ap (λ (n : ℕ). gives (inline_found layout i n)) e
  same_found (Some place) v = large_found_lem place v.1 (ltb (length b) place) (ltb (length b) (place + large_of layout))

module _ (a b : List ℕ) (long : length a ≡ length b) (i : ℕ) (layout : Layout) where
  same_header : (at : ℕ) (l : Option ℕ) → OnGround a b layout (Some (ground_by at l)) → le_at a at (size_of layout) ≡ le_at b at (size_of layout)
  same_header at l v = same_num (own_agrees a b layout at l v) at (size_of layout) (le_refl at) (le_refl (at + size_of layout))

  -- by whether the header runs past the end
  same_by : (at : ℕ) (cut : Bool) → ltb (length b) (at + size_of layout) ≡ cut → OnGround a b layout (ground_of b layout at) → record_at a layout at i ≡ record_at b layout at i
  unfolding record_at where_at ground_of where_of below
  same_by at true c v = rw (long, c)
  same_by at false c v =
      let l = link_of (inline_of layout 0 (le_at b at (size_of layout))) in
      let q : OnGround a b layout (Some (ground_by at l)) = rw c at v in
      let e = same_header at l q in
      let h : ground_of a layout at ≡ Some (ground_by at l) = rw (long, c, e) in
      let k : ground_of b layout at ≡ Some (ground_by at l) = rw c in
      ap (λ (x : Option Ground). found a layout at i (where_of a (large_of layout) x)) h
      ∙ ap (found a layout at i) (where-same a b (large_of layout) (Some (ground_by at l)) long)
      ∙ same_found a b layout at i e l q
      ∙ ap (λ (x : Option Ground). found b layout at i (where_of b (large_of layout) x)) (sym k)

  -- and so is what it is read from
  ground_by_lem : (at : ℕ) (cut : Bool) → ltb (length b) (at + size_of layout) ≡ cut → OnGround a b layout (ground_of b layout at) → ground_of a layout at ≡ ground_of b layout at
  unfolding ground_of below
  ground_by_lem at true c v = rw (long, c)
  ground_by_lem at false c v =
      let l = link_of (inline_of layout 0 (le_at b at (size_of layout))) in
      let e = same_header at l (rw c at v) in
      rw (long, c, e)

  pub on_ground : (start : ℕ) → OnGround a b layout (ground_at b layout start i) → function_at a layout start i ≡ function_at b layout start i
  unfolding ground_at function_at
  on_ground start v = same_by (header_at layout start i) (ltb (length b) (header_at layout start i + size_of layout)) refl v

  pub same_ground : (start : ℕ) → OnGround a b layout (ground_at b layout start i) → ground_at a layout start i ≡ ground_at b layout start i
  unfolding ground_at
  same_ground start v = ground_by_lem (header_at layout start i) (ltb (length b) (header_at layout start i + size_of layout)) refl v

-- ---- and so where its ground meets neither of two spans that they differ in

apart : {a b : List ℕ} {low₁ high₁ low₂ high₂ : ℕ} → SameBut a b low₁ high₁ low₂ high₂ → (layout : Layout) (g : Option Ground)
    → ground_meets (size_of layout) (large_of layout) low₁ high₁ g ≡ false → ground_meets (size_of layout) (large_of layout) low₂ high₂ g ≡ false → OnGround a b layout g
unfolding ground_meets
apart v layout None o u = tt
apart v layout (Some (ground.Inline at)) o u = agrees v at (size_of layout) o u
apart {low₁ = low₁} {high₁ = high₁} {low₂ = low₂} {high₂ = high₂} v layout (Some (ground.Large at place)) o u =
    let n = size_of layout in let m = large_of layout in (
      agrees v at n (or_left (overlap at n low₁ high₁) (overlap place m low₁ high₁) o) (or_left (overlap at n low₂ high₂) (overlap place m low₂ high₂) u),
      agrees v place m (or_right (overlap at n low₁ high₁) (overlap place m low₁ high₁) o) (or_right (overlap at n low₂ high₂) (overlap place m low₂ high₂) u),
    )

pub function_apart : {a b : List ℕ} {low₁ high₁ low₂ high₂ : ℕ} → SameBut a b low₁ high₁ low₂ high₂ → (i : ℕ) (layout : Layout) (start : ℕ)
    → meets b layout start low₁ high₁ i ≡ false → meets b layout start low₂ high₂ i ≡ false → function_at a layout start i ≡ function_at b layout start i
unfolding meets
function_apart {a} {b} v i layout start m o = on_ground a b v.long i layout start (apart v layout (ground_at b layout start i) m o)

pub function_same : {a b : List ℕ} {low high : ℕ} → Same a b low high → (i : ℕ) (layout : Layout) (start : ℕ) → meets b layout start low high i ≡ false
    → function_at a layout start i ≡ function_at b layout start i
function_same v i layout start m = function_apart (but_one v) i layout start m m

-- nor does it then meet any other span in the one file and not in the other
pub meets_same : {a b : List ℕ} {low high : ℕ} → Same a b low high → (i : ℕ) (layout : Layout) (start : ℕ) → meets b layout start low high i ≡ false
    → (low' high' : ℕ) → meets a layout start low' high' i ≡ meets b layout start low' high' i
unfolding meets
meets_same {a} {b} v i layout start m low' high' =
    ap (ground_meets (size_of layout) (large_of layout) low' high') (same_ground a b v.long i layout start (apart (but_one v) layout (ground_at b layout start i) m m))

-- ---- a function that is read has its header in the file

ends_by : (s : List ℕ) (layout : Layout) (at i : ℕ) (cut : Bool) → ltb (length s) (at + size_of layout) ≡ cut → asked (record_at s layout at i) ≡ gives tt
    → at + size_of layout ≤ length s
unfolding record_at where_at ground_of where_of below
ends_by s layout at i true c e =
    let f : asked (found s layout at i (Err reason.Cut)) ≡ gives tt = rw c at e in
    let z : ◌≡◌ {A = ℕ} 0 1 = cc in absurd (omega arith)
ends_by s layout at i false c e = ltb-false _ _ c

pub ends : (s : List ℕ) (layout : Layout) (start i : ℕ) → asked (function_at s layout start i) ≡ gives tt → header_at layout start i + size_of layout ≤ length s
unfolding function_at
ends s layout start i e = ends_by s layout (header_at layout start i) i (ltb (length s) (header_at layout start i + size_of layout)) refl e
