-- Where a refused read leaves the cursor.
use Prim.Native.Nat.{ℕ, ◌+◌}
use mathlib.Core.Path.{◌≡◌, refl, sym, ap, ◌∙◌}
use mathlib.Core.List.{List}
use lib.ListN.{length, drop}
use lib.Dec.{ltb, leb, eqb}
use Rattle.hbc_io.specs.Outcome.{Outcome, got, refused, valued, refusal, limit, left}
use Rattle.hbc_io.specs.Plain.{started, plain_at, bytes_at, seek_to, align_to, aligned_up}
use Rattle.hbc_io.specs.declared.Cursor.{Cursor}
use Rattle.hbc_io.specs.declared.Refusal.{Refusal}
use Rattle.hbc_io.proofs.Reading.{not_both, valued_refused}
use Rattle.hbc_io_leb.specs.Leb.{leb_bytes, going}
use Rattle.hbc_io_leb.specs.Answers.{uleb_of, sleb_of}
use Rattle.hbc_io_leb.specs.Signed.{sleb_at}
use Rattle.hbc_io_leb.specs.declared.Sleb.{Sleb}
use Rattle.hbc_io_strings.specs.Strings.{zero_ended, before0, prefixed, string_of, marked_at}
use Rattle.hbc_io_strings.specs.declared.Prefixed.{Prefixed}
use Rattle.hbc_io_strings.proofs.Strings.{prefix_got, prefix_refused, mark_refused}
use Rattle.hbc_claims_law.proofs.Tests.{either}
use Rattle.hbc_claims_law.specs.Terms.{stays, leb_left, text_left, PrefixLeft, no_length, no_bytes}

module _ (s : List ℕ) (c : Cursor) {k : Refusal} {n : Cursor} where
  -- where it is left goes by the number
  by_number : {A : Type 0} (g : Refusal → Cursor) (j : ℕ) (m : Cursor) → m ≡ g (refusal j) → ◌≡◌ {A = Outcome A} (refused (refusal j) m) (refused k n) → n ≡ g k
  by_number g j m h e = let x : refusal j ≡ k = cc in let y : m ≡ n = cc in sym y ∙ h ∙ ap g x

  -- the two tests in front of a read, 1 and 2, leave it; then the others
  at_start : {A : Type 0} (g : Refusal → Cursor) (o : Outcome A) → g (refusal 1) ≡ c → g (refusal 2) ≡ c → started s c o ≡ refused k n → (o ≡ refused k n → n ≡ g k) → n ≡ g k
  at_start g o x y e h =
      either (ltb limit (length s)) e (by_number g 1 c (sym x)) (λ p. either (ltb (length s) c.at) p (by_number g 2 c (sym y)) h)

  -- a number, whatever is made of it
  pub plain_left : {A : Type 0} (w : ℕ) (f : ℕ → A) → refused k n ≡ valued f (plain_at w s c) → n ≡ stays c k
  unfolding plain_at
  plain_left w f e =
      at_start (stays c) _ refl refl (valued_refused f (plain_at w s c) k n (sym e))
      (λ p. either (ltb (left s c) w) p (by_number (stays c) 3 c refl) (λ q. absurd (not_both refl q)))

  pub number_left : (w : ℕ) → refused k n ≡ plain_at w s c → n ≡ stays c k
  number_left w e = plain_left w (λ v. v) (ap (valued (λ (v : ℕ). v)) e)

  -- a span
  pub bytes_left : (len : ℕ) → refused k n ≡ bytes_at len s c → n ≡ stays c k
  unfolding bytes_at
  bytes_left len e =
      at_start (stays c) _ refl refl (sym e) (λ p. either (ltb (left s c) len) p (by_number (stays c) 3 c refl) (λ q. absurd (not_both refl q)))

  -- a seek, an align
  pub seek_left : (to : ℕ) → refused k n ≡ seek_to s c to → n ≡ stays c k
  unfolding seek_to
  seek_left to e =
      either (ltb limit (length s)) (sym e) (by_number (stays c) 1 c refl)
      (λ p. either (ltb (length s) to) p (by_number (stays c) 2 c refl) (λ q. absurd (not_both refl q)))

  pub align_left : (a : ℕ) → refused k n ≡ align_to s c a → n ≡ stays c k
  unfolding align_to
  align_left a e =
      either (ltb limit (length s)) (sym e) (by_number (stays c) 1 c refl) (λ p.
      either (eqb a 0) p (by_number (stays c) 6 c refl) (λ q.
      either (ltb (length s) c.at) q (by_number (stays c) 2 c refl) (λ v.
      either (ltb (length s) (aligned_up a c.at)) v (by_number (stays c) 2 c refl) (λ w. absurd (not_both refl w)))))

  -- a LEB128 number, whatever is made of it
  pub leb_left_lem : {A : Type 0} (f : List ℕ → A) → refused k n ≡ valued f (leb_bytes s c) → n ≡ leb_left s c k
  unfolding leb_bytes
  leb_left_lem f e =
      at_start (leb_left s c) _ refl refl (valued_refused f (leb_bytes s c) k n (sym e)) (λ p.
      either (leb 10 (going (drop c.at s))) p (by_number (leb_left s c) 5 _ refl) (λ q.
      either (leb (length s) (c.at + going (drop c.at s))) q (by_number (leb_left s c) 3 _ refl) (λ v. absurd (not_both refl v))))

  -- and as its 64 bits
  pub bits_left : {A : Type 0} (f : Sleb → A) → refused k n ≡ valued f (sleb_at s c) → n ≡ leb_left s c k
  unfolding sleb_at
  bits_left f e = leb_left_lem sleb_of (sym (valued_refused f (valued sleb_of (leb_bytes s c)) k n (sym e)))

  -- a string ended by a zero
  pub zero_left : refused k n ≡ zero_ended s c → n ≡ text_left s c k
  unfolding zero_ended
  zero_left e =
      at_start (text_left s c) _ refl refl (sym e) (λ p.
      either (leb (length s) (c.at + before0 (drop c.at s))) p (by_number (text_left s c) 9 _ refl) (λ q. absurd (not_both refl q)))

module _ (s : List ℕ) (c : Cursor) {k : Refusal} {n : Cursor} where
  by_prefix : (o : Outcome (List ℕ)) → leb_bytes s c ≡ o → marked_at s c ≡ refused k n → PrefixLeft s c k n
  by_prefix (got bs m) e p =
      let u = uleb_of bs in
      let q : valued (string_of u) (bytes_at u.value s m) ≡ refused k n = sym (prefix_got s c (ap (valued uleb_of) e) refl) ∙ p in
      let l : n ≡ m = bytes_left s m u.value (sym (valued_refused (string_of u) (bytes_at u.value s m) k n q)) in
      no_bytes bs (e ∙ ap (got bs) (sym l))
  by_prefix (refused r m) e p =
      let q : ◌≡◌ {A = Outcome Prefixed} (refused r m) (refused k n) = sym (prefix_refused s c (ap (valued uleb_of) e)) ∙ p in
      let x : r ≡ k = cc in
      let y : m ≡ n = cc in
      let z : leb_bytes s c ≡ refused k n = rw (e, x, y) in
      no_length z (leb_left_lem s c uleb_of (sym (ap (valued uleb_of) z)))

  -- a string with its length in front, with the mark of that and without
  pub marked_left : refused k n ≡ marked_at s c → PrefixLeft s c k n
  marked_left e = by_prefix (leb_bytes s c) refl (sym e)

  pub prefix_left : refused k n ≡ prefixed s c → PrefixLeft s c k n
  prefix_left e = by_prefix (leb_bytes s c) refl (mark_refused s c (sym e))
