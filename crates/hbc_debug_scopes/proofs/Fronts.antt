-- The front of a scope from the bits of its numbers.
use mathlib.Core.Path.{◌≡◌, refl, sym, ap, ◌∙◌}
use mathlib.Core.Bool.{Bool, true, false, cond}
use mathlib.Core.List.{List, [], ◌∷◌}
use Prim.Native.Nat.{ℕ, suc, ◌+◌, ◌-◌, ◌%◌, ◌^◌, ◌≤◌, ◌<◌}
use native.Mathlib.Omega.{arith}
use borrow.Author.Tests.{le-ltb, le-leb, lt-leb}
use lib.IntN.{ℤ, pos, negsuc}
use lib.ListN.{length}
use mir.Syntax.{w64}
use mir.Val.{SFits}
use Rattle.hbc_io.specs.Outcome.{Outcome, got, refused, valued, and_then, refusal, limit}
use Rattle.hbc_io.specs.declared.Cursor.{Cursor}
use Rattle.hbc_io.specs.declared.Refusal.{Refusal}
use Rattle.hbc_io.proofs.Reading.{valued_got, valued_refused, then_got}
use Rattle.hbc_io_leb.specs.Signed.{sleb_at, bits_of, held_of, up_to, under, natural, low32}
use Rattle.hbc_io_leb.specs.declared.Held.{Held}
use Rattle.hbc_io_leb.proofs.Signed.{bits_pos, bits_neg, bits_up_to, bits_low, natural_bits, natural_le}
use Rattle.hbc_io_leb.proofs.Helds.{Bits, bits_got, bits_refused}
use Rattle.hbc_rows.specs.Until.{until, after, flat, Ended}
use Rattle.hbc_io_leb.proofs.Moves.{sleb_moves}
use Rattle.hbc_rows.proofs.Far.{far}
use lib.Seq.{sets}
use Rattle.hbc_rows.proofs.Passes.{Written, written_on}
use Rattle.hbc_io_leb.proofs.Lebs.{leb_got}
use Rattle.hbc_io_leb.specs.Leb.{leb_bytes}
use Rattle.hbc_io_leb.specs.Answers.{sleb_of}
use Rattle.hbc_io_leb.specs.declared.Sleb.{Sleb}
use Rattle.hbc_debug_scopes.specs.Scopes.{Front, front_at, word_below, absent, parent_word, Scope, scope_at, scope_width, scope_row, name_count, name_row, name_cell}
use Rattle.hbc_debug_scopes.specs.Private.{head_of, word_bits}
use Rattle.hbc_debug_scopes.specs.declared.Head.{Head}

pub word_bits_lem : (m : ℕ) (z : ℤ) → SFits w64 z → m < 2 ^ 63 → word_bits m (bits_of z) ≡ word_below m z
unfolding word_bits word_below under
word_bits_lem m (pos n) h k = rw (bits_pos n h)
word_bits_lem m (negsuc n) h k = rw (bits_neg n h, le-ltb (2 ^ 64 - suc n) m (omega (arith, h.sfits)))

then_1 : {A B : Type 0} (o : Outcome A) (f : A → Cursor → Outcome B) (a : A) (m : Cursor) → o ≡ got a m → and_then o f ≡ f a m
then_1 o f a m e = rw e

module _ (s : List ℕ) (c : Cursor) where
  pub head_1 : (r : Refusal) (n : Cursor) → valued held_of (sleb_at s c) ≡ refused r n → refused r n ≡ valued head_of (front_at s c)
  unfolding front_at
  head_1 r n e = rw (bits_refused s c r n e)

  module _ (b₁ : Held) (c₁ : Cursor) (e₁ : valued held_of (sleb_at s c) ≡ got b₁ c₁) where
    pub head_2 : (r : Refusal) (n : Cursor) → valued held_of (sleb_at s c₁) ≡ refused r n → refused r n ≡ valued head_of (front_at s c)
    unfolding front_at
    head_2 r n e = let g = bits_got s c b₁ c₁ e₁ in rw (g.is, bits_refused s c₁ r n e)

    module _ (b₂ : Held) (c₂ : Cursor) (e₂ : valued held_of (sleb_at s c₁) ≡ got b₂ c₂) where
      pub head_3 : (r : Refusal) (n : Cursor) → valued held_of (sleb_at s c₂) ≡ refused r n → refused r n ≡ valued head_of (front_at s c)
      unfolding front_at
      head_3 r n e = let g = bits_got s c b₁ c₁ e₁ in let h = bits_got s c₁ b₂ c₂ e₂ in rw (g.is, h.is, bits_refused s c₂ r n e)

      module _ (b₃ : Held) (c₃ : Cursor) (e₃ : valued held_of (sleb_at s c₂) ≡ got b₃ c₃) (short : length s < 2 ^ 63) where
        pub head_4 : (p : ℕ) → b₃.bits ≤ length s - c₃.at → p ≡ word_bits absent b₁.bits
            → got (record { parent = p; flags = b₂.bits % 4294967296; count = b₃.bits }) c₃ ≡ valued head_of (front_at s c)
        unfolding front_at
        head_4 p l q =
            let g = bits_got s c b₁ c₁ e₁ in let h = bits_got s c₁ b₂ c₂ e₂ in let k = bits_got s c₂ b₃ c₃ e₃ in
            let u : up_to (length s - c₃.at) k.z.value ≡ true
            = sym (bits_up_to (length s - c₃.at) k.z.value k.fits (omega arith)) ∙ le-leb (bits_of k.z.value) (length s - c₃.at) (omega (arith, k.bits)) in
            let w : p ≡ parent_word g.z.value = q ∙ ap (word_bits absent) g.bits ∙ word_bits_lem absent g.z.value g.fits (omega arith) in
            let f : b₂.bits % 4294967296 ≡ low32 h.z.value = ap (λ (x : ℕ). x % 4294967296) h.bits ∙ bits_low h.z.value in
            let n : b₃.bits ≡ natural k.z.value = k.bits ∙ sym (natural_bits (length s - c₃.at) k.z.value k.fits u) in
            rw (g.is, h.is, k.is, u) (cc)

        pub head_5 : length s - c₃.at < b₃.bits → refused (refusal 3) c₃ ≡ valued head_of (front_at s c)
        unfolding front_at
        head_5 l =
            let g = bits_got s c b₁ c₁ e₁ in let h = bits_got s c₁ b₂ c₂ e₂ in let k = bits_got s c₂ b₃ c₃ e₃ in
            let u : up_to (length s - c₃.at) k.z.value ≡ false
            = sym (bits_up_to (length s - c₃.at) k.z.value k.fits (omega arith)) ∙ lt-leb (bits_of k.z.value) (length s - c₃.at) (omega (arith, k.bits)) in
            rw (g.is, h.is, k.is, u)

kept : {A : Type 0} (b : Bool) (x : A) (k : Refusal) (m : Cursor) (v : A) (n : Cursor) → cond b (got x m) (refused k m) ≡ got v n → (m ≡ n) × (x ≡ v) × (b ≡ true)
kept true x k m v n e = (cc, cc, refl)
kept false x k m v n e = let z : ◌≡◌ {A = ℕ} 0 1 = cc in absurd (omega arith)

pub sleb_short : (s : List ℕ) (c : Cursor) (z : Sleb) (n : Cursor) → sleb_at s c ≡ got z n → length s ≤ limit
unfolding sleb_at
sleb_short s c z n e = let w = valued_got sleb_of (leb_bytes s c) z n e in (leb_got s c w.0 n w.1).short

pub record Inside (s : List ℕ) (c : Cursor) (h : Front) (n : Cursor) : Type 0 where
  pub on : c.at < n.at
  pub room : n.at ≤ length s
  pub short : length s ≤ limit
  pub most : h.count ≤ length s

abbrev third : List ℕ → Sleb → Sleb → Sleb → Cursor → Outcome Front
third s parent flags count c₃ =
    cond (up_to (length s - c₃.at) count.value) (got (record { parent = parent.value; flags = flags.value; count = natural count.value }) c₃) (refused (refusal 3) c₃)

abbrev second : List ℕ → Sleb → Sleb → Cursor → Outcome Front
second s parent flags c₂ = and_then (sleb_at s c₂) (third s parent flags)

abbrev first : List ℕ → Sleb → Cursor → Outcome Front
first s parent c₁ = and_then (sleb_at s c₁) (second s parent)

pub front_inside : (s : List ℕ) (c : Cursor) (h : Front) (n : Cursor) → front_at s c ≡ got h n → Inside s c h n
unfolding front_at
front_inside s c h n e =
    let a = then_got (sleb_at s c) (first s) h n e in
    let b = then_got (sleb_at s a.1) (second s a.0) h n a.3 in
    let d = then_got (sleb_at s b.1) (third s a.0 b.0) h n b.3 in
    let m = kept (up_to (length s - d.1.at) d.0.value) _ (refusal 3) d.1 h n d.3 in
    let y = ap (λ (x : Cursor). x.at) m.0 in
    let u : natural d.0.value ≡ h.count = ap (λ (x : Front). x.count) m.1 in
    let o = natural_le _ d.0.value m.2 in
    let p = (sleb_moves s).on c a.0 a.1 a.2 in
    let q = (sleb_moves s).on a.1 b.0 b.1 b.2 in
    let r = (sleb_moves s).on b.1 d.0 d.1 d.2 in
    record { on = omega arith; room = omega arith; short = sleb_short s c a.0 a.1 a.2; most = omega arith }

-- one scope read, as the code has it
pub record Turn (s : List ℕ) (c : Cursor) (v : Head) (c₁ : Cursor) (n : ℕ) (m : Cursor) : Type 0 where
  pub x : Scope
  pub is : scope_at s c ≡ got x m
  pub row : (first : ℕ) → c.at ∷ v.parent ∷ v.flags ∷ first ∷ n ∷ [] ≡ scope_row first x
  pub count : n ≡ name_count x
  pub names : (k : ℕ) → flat (name_cell k) (until (sleb_at s) v.count c₁) ≡ name_row k x
  pub low : c.at + n < m.at
  pub high : m.at ≤ length s
  pub short : length s ≤ limit

pub turn : (s : List ℕ) (c : Cursor) (v : Head) (c₁ : Cursor) (n : ℕ) (m : Cursor)
    → valued head_of (front_at s c) ≡ got v c₁ → Ended (sleb_at s) v.count c₁ n m → Turn s c v c₁ n m
unfolding scope_at scope_row name_count name_row
turn s c v c₁ n m e g =
    let w = valued_got head_of (front_at s c) v c₁ e in
    let h : Front = w.0 in
    let f : front_at s c ≡ got h c₁ = w.1 in
    let p : v.parent ≡ parent_word h.parent = ap (λ (y : Head). y.parent) w.2 in
    let q : v.flags ≡ low32 h.flags = ap (λ (y : Head). y.flags) w.2 in
    let k : v.count ≡ h.count = ap (λ (y : Head). y.count) w.2 in
    let i = front_inside s c h c₁ f in
    let z = far (length s) (sleb_at s) (sleb_moves s) v.count c₁ i.room in
    let y = ap (λ (t : Cursor). t.at) g.place in
    let x : Scope = record { offset = c.at; front = h; names = until (sleb_at s) h.count c₁ } in
    let kept : scope_at s c ≡ got x (after (sleb_at s) h.count c₁) = then_1 (front_at s c) _ h c₁ f in
    record {
      x = x;
      is = kept ∙ rw (sym k, sym g.place);
      row = λ first. let d : n ≡ length (until (sleb_at s) h.count c₁) = g.count ∙ ap (λ (j : ℕ). length (until (sleb_at s) j c₁)) k in cc;
      count = g.count ∙ ap (λ (j : ℕ). length (until (sleb_at s) j c₁)) k;
      names = λ j. ap (λ (i : ℕ). flat (name_cell j) (until (sleb_at s) i c₁)) k;
      low = omega (arith, z.low, i.on, g.count);
      high = omega (arith, z.high);
      short = i.short;
    }

pub head_most : (s : List ℕ) (c : Cursor) (v : Head) (c₁ : Cursor) → valued head_of (front_at s c) ≡ got v c₁ → v.count ≤ length s
head_most s c v c₁ e =
    let w = valued_got head_of (front_at s c) v c₁ e in
    let k : v.count ≡ w.0.count = ap (λ (y : Head). y.count) w.2 in
    omega (arith, (front_inside s c w.0 c₁ w.1).most)

-- it stopped
pub scope_refused : (s : List ℕ) (c : Cursor) (r : Refusal) (n : Cursor) → valued head_of (front_at s c) ≡ refused r n → scope_at s c ≡ refused r n
unfolding scope_at
scope_refused s c r n e = rw (valued_refused head_of (front_at s c) r n e)

-- a name's word
pub cell_is : (m : ℕ) {s : List ℕ} {c : Cursor} {b : Held} {n : Cursor} {r : ℕ} (g : Bits s c b n) → r ≡ word_bits m b.bits → m < 2 ^ 63 → r ∷ [] ≡ name_cell m g.z
cell_is m g e h = let w = word_bits_lem m g.z.value g.fits h in let k = g.bits in ap (λ (x : ℕ). x ∷ []) (e ∙ ap (word_bits m) k ∙ w)

pub length_cells : (m : ℕ) (zs : List Sleb) → length (flat (name_cell m) zs) ≡ length zs
length_cells m [] = refl
length_cells m (z ∷ zs) = ap suc (length_cells m zs)

-- the names of one scope written
pub turned : (m at : ℕ) {s : List ℕ} {all : List Scope} {before : List ℕ} {k : ℕ} {c : Cursor} {v : Head} {c₁ : Cursor} {n : ℕ} {next : Cursor} {t u : List ℕ}
    (g : Turn s c v c₁ n next) → 0 < k → u ≡ sets t at (flat (name_cell m) (until (sleb_at s) v.count c₁))
    → Written (scope_at s) (name_row m) all before 0 k at c t → Written (scope_at s) (name_row m) all before 0 (k - 1) (at + n) next u
unfolding name_row name_count
turned m at {n} {t} g h e w =
    let l : length (name_row m g.x) ≡ n = length_cells m g.x.names ∙ sym g.count in
    written_on n h g.is l (e ∙ ap (sets t at) (g.names m)) w

pub row_size : (k : ℕ) (x : Scope) → length (scope_row k x) ≡ scope_width
unfolding scope_row
row_size k x = refl
