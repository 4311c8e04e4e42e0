-- A scalar value's bytes by their number, and the most that a text has.
use Prim.Native.Nat.{ℕ, suc, ◌+◌, ◌/◌, ◌%◌, ◌≤◌, ◌<◌}
use mathlib.Core.Path.{◌≡◌, sym}
use mathlib.Core.List.{List}
use mathlib.Core.Bool.{true}
use native.Mathlib.Numerals.{add-one}
use native.Mathlib.Omega.{arith}
use lib.ListN.{length, set, get_or}
use lib.Dec.{leb}
use lib.Seq.{sets}
use borrow.Author.Tests.{le-leb}
use Rattle.hbc_text_forms.specs.Scalars.{encode}
use Rattle.hbc_text_forms.specs.Utf16.{units}
use Rattle.hbc_text_forms.proofs.Bounds.{units_length, scalars_length}
use Rattle.hbc_text_forms.proofs.Codes.{encode_1, encode_2, encode_3, encode_4}
use Rattle.hbc_text_forms.proofs.Wide.{units_below}
use Rattle.hbc_text_utf16.specs.Private.{text_of}

module _ (c : ℕ) where
  pub size_1 : c < 0x80 → length (encode c) ≡ 1
  size_1 h = rw (encode_1 c h)

  pub size_2 : 0x80 ≤ c → c < 0x800 → length (encode c) ≡ 2
  size_2 l h = rw (encode_2 c l h)

  pub size_3 : 0x800 ≤ c → c < 0x10000 → length (encode c) ≡ 3
  size_3 l h = rw (encode_3 c l h)

  pub size_4 : 0x10000 ≤ c → length (encode c) ≡ 4
  size_4 l = rw (encode_4 c l)

  -- its bytes stored one by one
  module _ (d : List ℕ) (at : ℕ) where
    pub put_1 : c < 0x80 → set d at c ≡ sets d at (encode c)
    put_1 h = sym (rw (encode_1 c h))

    pub put_2 : 0x80 ≤ c → c < 0x800 → set (set d at (0xC0 + c / 64)) (at + 1) (0x80 + c % 64) ≡ sets d at (encode c)
    put_2 l h = sym (rw (encode_2 c l h, add-one at))

    pub put_3 : 0x800 ≤ c → c < 0x10000 → set (set (set d at (0xE0 + c / 4096)) (at + 1) (0x80 + c / 64 % 64)) (at + 2) (0x80 + c % 64) ≡ sets d at (encode c)
    put_3 l h =
        let e : at + 2 ≡ suc (suc at) = omega arith in
        sym (rw (encode_3 c l h, add-one at, e))

    pub put_4 : 0x10000 ≤ c → set (set (set (set d at (0xF0 + c / 262144)) (at + 1) (0x80 + c / 4096 % 64)) (at + 2) (0x80 + c / 64 % 64)) (at + 3) (0x80 + c % 64) ≡ sets d at (encode c)
    put_4 l =
        let e : at + 2 ≡ suc (suc at) = omega arith in
        let f : at + 3 ≡ suc (suc (suc at)) = omega arith in
        sym (rw (encode_4 c l, add-one at, e, f))

-- ---- at most three bytes for each unit, and so there is room for it where there is for those

pub text_enough : (s : List ℕ) (room : ℕ) → ((i : ℕ) → get_or s i 0 < 256) → length s / 2 ≤ room / 3 → true ≡ leb (length (text_of s)) room
unfolding text_of
text_enough s room h l =
    sym (le-leb (length (text_of s)) room (omega (arith, scalars_length (units s) (units_below s h), units_length s)))
