-- Laws of words stored one after the other.
use mathlib.Core.Path.{◌≡◌, refl, sym, ap, ◌∙◌}
use mathlib.Core.List.{List, [], ◌∷◌, ◌++◌, append_assoc}
use Prim.Native.Nat.{ℕ, suc, ◌+◌, ◌-◌, ◌≤◌}
use native.Mathlib.Omega.{arith}
use native.Mathlib.Nat.{add-zero}
use lib.ListN.{length, take, drop, set, take-append-drop}
use lib.Seq.{sets, sets-eq, set_out, length-sets, length-take-le, drop-drop}
use borrow.Rule.Slice.PartMut.{put_mid}

-- past the end nothing is stored
pub sets_out : (ws t : List ℕ) (at : ℕ) → length t ≤ at → sets t at ws ≡ t
sets_out [] t at h = refl
sets_out (w ∷ ws) t at h = rw (set_out t at w h) (sets_out ws t (suc at) (omega arith))

-- words and then more of them
pub sets_append : (xs ys t : List ℕ) (at : ℕ) → sets t at (xs ++ ys) ≡ sets (sets t at xs) (at + length xs) ys
sets_append [] ys t at = rw (add-zero at)
sets_append (x ∷ xs) ys t at =
    let e : suc at + length xs ≡ at + length (x ∷ xs) = omega arith in
    sets_append xs ys (set t at x) (suc at) ∙ ap (λ (n : ℕ). sets (sets (set t at x) (suc at) xs) n ys) e

-- a row copied over the part of the table that it is to fill
pub copied : (t row : List ℕ) (at : ℕ) → at + length row ≤ length t → put_mid at (at + length row - at) t row ≡ sets t at row
copied t row at h =
    let k : at + length row - at ≡ length row = omega arith in
    rw (k, sets-eq row t at h, drop-drop, append_assoc)

-- of a row, the words that there is room for
pub sets_room : (t row : List ℕ) (at n : ℕ) → n ≤ length row → length t ≤ at + n → sets t at (take n row) ≡ sets t at row
sets_room t row at n l m =
    let e : length (take n row) ≡ n = length-take-le n row l in
    let k : length (sets t at (take n row)) ≤ at + length (take n row) = rw (length-sets, e) m in
    sym (ap (sets t at) (sym (take-append-drop n row)) ∙ sets_append (take n row) (drop n row) t at ∙ sets_out (drop n row) _ _ k)
