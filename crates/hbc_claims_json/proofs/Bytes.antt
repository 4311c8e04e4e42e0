-- UTF-8 of scalar values: it is of one list of them alone, every text is of one, and ASCII stands for itself.
use Prim.Native.Nat.{ℕ, ◌<◌}
use mathlib.Core.Path.{◌≡◌, refl, sym, ap, ◌∙◌}
use mathlib.Core.List.{List, [], ◌∷◌, ◌++◌, append_assoc}
use lib.ListN.{take, drop}
use lib.Seq.{take-append_seam, drop-append_seam}
use Rattle.hbc_text_forms.specs.Utf8.{Character, WellFormed, end, then, passed}
use Rattle.hbc_text_forms.specs.Scalars.{encode, encode_all, Scalars, none, more}
use Rattle.hbc_text_forms.proofs.Rows.{filled, reads}
use Rattle.hbc_text_forms.proofs.Codes.{encoded, encode_1, decoded, one_code}

-- ---- lists

pub joined : {A : Type 0} {a b : A} {s t : List A} → a ≡ b → s ≡ t → a ∷ s ≡ b ∷ t
joined p q = rw (p, q)

abbrev pub rest : List ℕ → List ℕ
rest [] = []
rest (b ∷ s) = s

-- ---- the first character of bytes, and what is behind it

abbrev lead : List ℕ → List ℕ
lead [] = []
lead (b ∷ s) = b ∷ take (passed b s) s

abbrev behind : List ℕ → List ℕ
behind [] = []
behind (b ∷ s) = drop (passed b s) s

lead_is : {c : List ℕ} (x : List ℕ) → Character c → lead (c ++ x) ≡ c
lead_is {c = []} x ch = absurd (filled ch)
lead_is {c = b ∷ c} x ch = rw ((reads x ch).passes, take-append_seam c x)

behind_is : {c : List ℕ} (x : List ℕ) → Character c → behind (c ++ x) ≡ x
behind_is {c = []} x ch = absurd (filled ch)
behind_is {c = b ∷ c} x ch = rw ((reads x ch).passes, drop-append_seam c x)

void : {c : List ℕ} → Character c → [] ≡ c → ⊥
void ch e = filled (rw e ch)

-- the same bytes are of the same scalar values
pub one_list : {cs ds : List ℕ} → Scalars cs → Scalars ds → encode_all cs ≡ encode_all ds → cs ≡ ds
unfolding encode_all
one_list none none e = refl
one_list none (more {cs = ds} h hs) e = absurd (void (encoded h) (ap lead e ∙ lead_is (encode_all ds) (encoded h)))
one_list (more {cs} h hs) none e = absurd (void (encoded h) (ap lead (sym e) ∙ lead_is (encode_all cs) (encoded h)))
one_list (more {c} {cs} h hs) (more {c = d} {cs = ds} k ks) e =
    joined
    (one_code c d (sym (lead_is (encode_all cs) (encoded h)) ∙ ap lead e ∙ lead_is (encode_all ds) (encoded k)))
    (one_list hs ks (sym (behind_is (encode_all cs) (encoded h)) ∙ ap behind e ∙ behind_is (encode_all ds) (encoded k)))

-- ---- a text is of scalar values

pub record Values (t : List ℕ) : Type 0 where
  pub list : List ℕ
  pub scalar : Scalars list
  pub is : t ≡ encode_all list

pub values : {t : List ℕ} → WellFormed t → Values t
unfolding encode_all
values end = record { list = []; scalar = none; is = refl }
values (then ch w) =
    let d = decoded ch in
    let v = values w in
    record { list = d.scalar ∷ v.list; scalar = more d.is_scalar v.scalar; is = rw (d.is, ← v.is) }

-- ---- parts

pub both : {p q : List ℕ} → Scalars p → Scalars q → Scalars (p ++ q)
both none k = k
both (more h hs) k = more h (both hs k)

pub parts : (p q : List ℕ) → Scalars (p ++ q) → Scalars p × Scalars q
parts [] q h = (none, h)
parts (c ∷ p) q (more h hs) = let r = parts p q hs in (more h r.0, r.1)

pub encode_both : (p q : List ℕ) → encode_all (p ++ q) ≡ encode_all p ++ encode_all q
unfolding encode_all
encode_both [] q = refl
encode_both (c ∷ p) q = rw (encode_both p q) (sym (append_assoc (encode c) (encode_all p) (encode_all q)))

-- ---- ASCII

pub ascii : (c : ℕ) (p : List ℕ) → c < 0x80 → encode_all (c ∷ p) ≡ c ∷ encode_all p
unfolding encode_all
ascii c p h = rw (encode_1 c h)
