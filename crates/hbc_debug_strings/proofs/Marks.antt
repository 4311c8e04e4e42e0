-- The mark of a string's length is whether the number that was read of it is exact.
use mathlib.Core.Path.{◌≡◌, ap, ◌∙◌}
use mathlib.Core.Bool.{true}
use mathlib.Core.List.{List}
use Prim.Native.Nat.{ℕ}
use Rattle.hbc_io.specs.Outcome.{got, refused, valued}
use Rattle.hbc_io.specs.declared.Cursor.{Cursor}
use Rattle.hbc_io.specs.declared.Refusal.{Refusal}
use Rattle.hbc_io.proofs.Reading.{valued_got, valued_refused}
use Rattle.hbc_io_leb.specs.Leb.{leb_bytes, exact_unsigned}
use Rattle.hbc_io_leb.specs.Answers.{uleb_of}
use Rattle.hbc_io_leb.specs.Numbers.{exact}
use Rattle.hbc_io_leb.specs.declared.Uleb.{Uleb}
use Rattle.hbc_io_strings.specs.Strings.{marked_at}
use Rattle.hbc_io_strings.specs.declared.Prefixed.{Prefixed}
use Rattle.hbc_io_strings.proofs.Strings.{mark_got}
use Rattle.hbc_debug_parts.specs.Along.{every}
use Rattle.hbc_debug_parts.proofs.Along.{and_true}
use Rattle.hbc_debug_strings.specs.Strings.{prefix_number}

module _ (s : List ℕ) (c : Cursor) where
  one : {bs : List ℕ} {n : Cursor} → leb_bytes s c ≡ got bs n → exact_unsigned bs ≡ every exact (prefix_number s c)
  unfolding prefix_number every exact
  one {bs} e = rw e (rw (and_true (exact_unsigned bs)))

  pub length_mark : {u : Uleb} {n : Cursor} → valued uleb_of (leb_bytes s c) ≡ got u n → u.exact ≡ every exact (prefix_number s c)
  length_mark {u} {n} e =
      let w = valued_got uleb_of (leb_bytes s c) u n e in
      ap (λ (x : Uleb). x.exact) w.2 ∙ one w.1

  pub no_length : {r : Refusal} {n : Cursor} → valued uleb_of (leb_bytes s c) ≡ refused r n → true ≡ every exact (prefix_number s c)
  unfolding prefix_number every
  no_length {r} {n} e = rw (valued_refused uleb_of (leb_bytes s c) r n e)

  pub string_mark : {p : Prefixed} {n : Cursor} → marked_at s c ≡ got p n → p.exact ≡ every exact (prefix_number s c)
  string_mark e = let w = mark_got s c e in w.3 ∙ one w.2
