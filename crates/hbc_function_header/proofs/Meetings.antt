-- The laws of Meets.
use Prim.Native.Nat.{ℕ, ◌+◌, ◌≤◌, ◌<◌, min, max}
use mathlib.Core.Path.{◌≡◌, refl, sym, ◌∙◌}
use mathlib.Core.List.{List}
use mathlib.Core.Bool.{Bool, true, false, cond}
use lib.ListN.{length}
use lib.Dec.{ltb}
use borrow.Author.Tests.{le-ltb, lt-ltb, ltb-true}
use Rattle.std.specs.Prelude.{Some}
use Rattle.hbc_io.specs.declared.Refusal.{Refusal}
use Rattle.hbc_io.specs.Outcome.{limit}
use Rattle.hbc_io.specs.Answer.{Answer, gives, refuses, refused_at}
use Rattle.hbc_io.specs.Lends.{below}
use Rattle.hbc_io.proofs.Exits.{not_given, reached}
use Rattle.hbc_function_record.specs.declared.Layout.{Layout}
use Rattle.hbc_io.specs.Plain.{word_at}
use Rattle.hbc_function_record.specs.Record.{size_of, large_of, inline_of, flags_of, overflowed}
use Rattle.hbc_function_header.specs.Header.{header_at, ground_here, ground_of, ground_at, headed}
use Rattle.hbc_function_header.specs.Meets.{overlap, ground_meets, meets, spanned, function_meets}
use Rattle.hbc_function_header.proofs.Headers.{plain_ground, opened_at}

module _ (a n low high : ℕ) where
  pub apart : min (a + n) high ≤ max a low → false ≡ overlap a n low high
  unfolding overlap
  apart h = sym (le-ltb _ _ h)

  pub shares : max a low < min (a + n) high → true ≡ overlap a n low high
  unfolding overlap
  shares h = sym (lt-ltb _ _ h)

module _ {A : Type 0} (s : List ℕ) (low high : ℕ) (a : Answer A) where
  pub spanned_back : high < low → refused_at 10 0 ≡ spanned s low high a
  unfolding below
  spanned_back h = sym (rw (lt-ltb high low h))

  pub spanned_past : low ≤ high → length s < high → refused_at 10 0 ≡ spanned s low high a
  unfolding below
  spanned_past h k = sym (rw (le-ltb high low h, lt-ltb (length s) high k))

  pub spanned_in : low ≤ high → high ≤ length s → a ≡ spanned s low high a
  unfolding below
  spanned_in h k = sym (rw (le-ltb high low h, le-ltb (length s) high k))

module _ (s : List ℕ) (layout : Layout) (start i low high : ℕ) where
  -- not flagged, and apart from the span
  pub plain_apart : header_at layout start i + size_of layout ≤ length s
      → overflowed (flags_of (inline_of layout 0 (word_at (size_of layout) s (header_at layout start i)))) ≡ false
      → min (header_at layout start i + size_of layout) high ≤ max (header_at layout start i) low → meets s layout start low high i ≡ false
  unfolding meets ground_meets ground_at
  plain_apart h o k = rw (← plain_ground s layout (header_at layout start i) h o) (sym (apart (header_at layout start i) (size_of layout) low high k))

  -- of a header that is in the file
  pub meets_here : {at : ℕ} → at ≡ header_at layout start i → at + size_of layout ≤ length s
      → ground_meets (size_of layout) (large_of layout) low high (Some (ground_here s layout at)) ≡ meets s layout start low high i
  unfolding meets ground_at ground_of below
  meets_here {at} e h = rw (← e, le-ltb (length s) (at + size_of layout) h)

  module _ (h : length s ≤ limit) (k : start ≤ length s) (l : low ≤ high) (m : high ≤ length s) where
    -- past the tests of file, start and span
    pub meets_at : headed s layout start i (gives (meets s layout start low high i)) ≡ function_meets s layout start i low high
    unfolding function_meets
    meets_at = spanned_in s low high _ l m ∙ opened_at s start _ h k

    -- a function whose header is not in the file meets nothing, and is refused; so what is given is whether it meets the span, and else it does not
    none_meets : length s < header_at layout start i + size_of layout → meets s layout start low high i ≡ false
    unfolding meets ground_meets ground_at ground_of below
    none_meets n = rw (lt-ltb (length s) (header_at layout start i + size_of layout) n)

    pub met_given : {b : Bool} → gives b ≡ function_meets s layout start i low high → b ≡ meets s layout start low high i
    met_given {b} e =
        let w : headed s layout start i (gives (meets s layout start low high i)) ≡ gives b = meets_at ∙ sym e in
        let n = (reached _ _ _ _ not_given w).1 in
        cc

    pub met_refused : {x : Refusal} → refuses x ≡ function_meets s layout start i low high → false ≡ meets s layout start low high i
    unfolding below
    met_refused {x} e = by (ltb (length s) (header_at layout start i + size_of layout)) refl (meets_at ∙ sym e)
      where
        by : (t : Bool) → ltb (length s) (header_at layout start i + size_of layout) ≡ t
            → cond t (refused_at 3 i) (gives (meets s layout start low high i)) ≡ refuses x → false ≡ meets s layout start low high i
        by true p q = sym (none_meets (ltb-true _ _ p))
        by false p q = absurd (not_given (sym q))

-- what the call cites
pub ruleset meeting = (spanned_back, spanned_past, spanned_in, meets_here)
