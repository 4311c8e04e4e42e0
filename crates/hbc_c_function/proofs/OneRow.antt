-- One function into the first row: past the tests of file, start and room, what the function's record makes of it.
use Prim.Native.Nat.{ℕ, ◌*◌, ◌≤◌}
use mathlib.Core.Path.{◌≡◌, refl, ap, sym, ◌∙◌}
use mathlib.Core.List.{List}
use lib.ListN.{length}
use borrow.Author.Tests.{le-ltb}
use Rattle.hbc_io.specs.Outcome.{limit}
use Rattle.hbc_io.specs.Answer.{gives, refuses, asked}
use Rattle.hbc_io.specs.Lends.{below}
use Rattle.hbc_io.specs.declared.Refusal.{Refusal}
use Rattle.hbc_io.proofs.Exits.{given, refused}
use Rattle.hbc_rows.specs.Rows.{put_row}
use Rattle.hbc_function_record.specs.declared.Layout.{Layout}
use Rattle.hbc_function_record.specs.declared.Found.{Found}
use Rattle.hbc_function_record.specs.Row.{width, row_words}
use Rattle.hbc_function_record.proofs.Rows.{words_length}
use Rattle.hbc_function_header.specs.Header.{read_function}
use Rattle.hbc_function_header.proofs.Headers.{read_at}
use Rattle.hbc_function.specs.Table.{row_by}
use Rattle.hbc_c_function.specs.Function.{row_answer, ReadRow}

module _ (s : List ℕ) (layout : Layout) (start i : ℕ) (t : List ℕ) (h : length s ≤ limit) (k : start ≤ length s) (l : 1 * width ≤ length t) where
  answer_is : asked (read_function s layout start i) ≡ row_answer s layout start i (length t)
  unfolding row_answer below
  answer_is = ap asked (sym (read_at s layout start i h k)) ∙ sym (simp (le-ltb _ _ h, le-ltb _ _ k, le-ltb (length t) (1 * width) l))

  pub row_read : {r : Found} {words t' : List ℕ} → gives r ≡ read_function s layout start i → words ≡ row_words r → t' ≡ put_row (length words) t 0 words
      → ReadRow s layout start i t (gives tt) t'
  row_read {r} {words} {t'} e w p = given refl (ap asked e ∙ answer_is)
      (p ∙ ap (λ (n : ℕ). put_row n t 0 words) (ap length w ∙ words_length r) ∙ ap (put_row width t 0) (w ∙ ap row_by (e ∙ sym (read_at s layout start i h k))))

  pub row_kept : {x : Refusal} → refuses x ≡ read_function s layout start i → ReadRow s layout start i t (refuses x) t
  row_kept e = refused refl (ap asked e ∙ answer_is)
