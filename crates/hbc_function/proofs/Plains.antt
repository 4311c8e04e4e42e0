-- A function that is read from its own header alone: known so, and its row.
use Prim.Native.Nat.{ℕ, ◌+◌, ◌*◌, ◌-◌, ◌≤◌, min, max}
use mathlib.Core.Path.{◌≡◌, refl, sym, ap, ◌∙◌, subst}
use mathlib.Core.List.{List}
use mathlib.Core.Bool.{Bool, false, not}
use native.Mathlib.Omega.{arith}
use lib.ListN.{length, take, drop}
use borrow.Author.Tests.{not-true}
use borrow.Rule.Slice.PartMut.{put_mid}
use Rattle.hbc_io.specs.Answer.{gives}
use Rattle.hbc_io.specs.Plain.{word_at}
use Rattle.hbc_rows.specs.Rows.{put_row}
use Rattle.hbc_function_record.specs.declared.Layout.{Layout}
use Rattle.hbc_function_record.specs.Record.{size_of, inline_of, flags_of, overflowed}
use Rattle.hbc_function_record.specs.Row.{width, row_words, inline_found}
use Rattle.hbc_function_header.specs.Header.{header_at, function_at}
use Rattle.hbc_function_header.proofs.Headers.{plain_found, is_function, row_read}
use Rattle.hbc_function_header.proofs.Meetings.{plain_apart}
use Rattle.hbc_function.specs.Table.{row_by}
use Rattle.hbc_function.specs.Private.{Plain, Apart}
use Rattle.hbc_function.proofs.Laws.{put_mid_lem, part_length}

module _ (s : List ℕ) (layout : Layout) (start i : ℕ) where
  pub not_known : Plain s layout start i false
  not_known e = let z : ◌≡◌ {A = ℕ} 0 1 = cc in absurd (omega arith)

  plain_here : {b : Bool} → header_at layout start i + size_of layout ≤ length s
      → b ≡ overflowed (flags_of (inline_of layout 0 (word_at (size_of layout) s (header_at layout start i)))) → Plain s layout start i (not b)
  plain_here {b} h d q = plain_found s layout (header_at layout start i) h (sym d ∙ not-true b q) i ∙ is_function s layout start i refl

  pub plain_by : {size : ℕ} {b : Bool} → size ≡ size_of layout → start + i * size + size ≤ length s
      → b ≡ overflowed (flags_of (inline_of layout 0 (word_at (size_of layout) s (start + i * size)))) → Plain s layout start i (not b)
  plain_by {size} {b} e = subst
      (λ (n : ℕ). start + i * n + n ≤ length s → b ≡ overflowed (flags_of (inline_of layout 0 (word_at (size_of layout) s (start + i * n)))) → Plain s layout start i (not b))
      (sym e) plain_here

  pub row_by_lem : {size : ℕ} {words row : List ℕ} (t : List ℕ) → i * width + width ≤ length t → size ≡ size_of layout
      → words ≡ row_words (inline_found layout i (word_at (size_of layout) s (start + i * size)))
      → gives (inline_found layout i (word_at (size_of layout) s (header_at layout start i))) ≡ function_at s layout start i
      → row ≡ put_row (length words) (take (i * width + width - i * width) (drop (i * width) t)) 0 words
      → put_mid (i * width) (i * width + width - i * width) t row ≡ put_row width t i (row_by (function_at s layout start i))
  row_by_lem {words = words} t h e w g p =
      put_mid_lem i (function_at s layout start i) t h
      (row_read (function_at s layout start i) (take (i * width + width - i * width) (drop (i * width) t)) words (part_length i t h) g
      (w ∙ ap (λ (n : ℕ). row_words (inline_found layout i (word_at (size_of layout) s (start + i * n)))) e) p)

module _ (s : List ℕ) (layout : Layout) (start low high i : ℕ) where
  pub not_apart : Apart s layout start low high i false
  not_apart e = let z : ◌≡◌ {A = ℕ} 0 1 = cc in absurd (omega arith)

  apart_here : {b : Bool} → header_at layout start i + size_of layout ≤ length s
      → b ≡ overflowed (flags_of (inline_of layout 0 (word_at (size_of layout) s (header_at layout start i))))
      → min (header_at layout start i + size_of layout) high ≤ max (header_at layout start i) low → Apart s layout start low high i (not b)
  apart_here {b} h d k q = plain_apart s layout start i low high h (sym d ∙ not-true b q) k

  pub apart_by : {size : ℕ} {b : Bool} → size ≡ size_of layout → start + i * size + size ≤ length s
      → b ≡ overflowed (flags_of (inline_of layout 0 (word_at (size_of layout) s (start + i * size))))
      → min (start + i * size + size) high ≤ max (start + i * size) low → Apart s layout start low high i (not b)
  apart_by {size} {b} e = subst
      (λ (n : ℕ). start + i * n + n ≤ length s → b ≡ overflowed (flags_of (inline_of layout 0 (word_at (size_of layout) s (start + i * n))))
      → min (start + i * n + n) high ≤ max (start + i * n) low → Apart s layout start low high i (not b))
      (sym e) apart_here
