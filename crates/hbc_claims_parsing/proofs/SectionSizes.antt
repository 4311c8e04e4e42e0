-- Every section that the sections' call answers has the entries that were asked for, and the size of its bytes with their padding.
use Rattle.std.specs.Prelude.{Option, Some, None}
use Prim.Native.Nat.{ℕ, ◌+◌, ◌-◌, ◌*◌, ◌≤◌}
use mathlib.Core.Path.{◌≡◌, refl, ap, sym, ◌∙◌}
use mathlib.Core.List.{List}
use mathlib.Core.Bool.{Bool, true, false}
use native.Mathlib.Omega.{arith}
use Rattle.hbc_io.specs.Outcome.{Outcome, got, refused, cursor_at, left}
use Rattle.hbc_io.specs.Answer.{gives, told}
use Rattle.hbc_io.specs.Plain.{bytes_at, align_to, seek_to, aligned_up}
use Rattle.hbc_io.specs.declared.Cursor.{Cursor}
use Rattle.hbc_io.proofs.Reading.{same_got, then_got, valued_got}
use Rattle.hbc_io.proofs.Plains.{bytes_got}
use Rattle.hbc_io.proofs.Aligns.{aligned}
use Rattle.hbc_parsing_sections.specs.declared.Section.{Section}
use Rattle.hbc_parsing_sections.specs.declared.Sections.{Sections}
use Rattle.hbc_parsing_sections.specs.Sections.{section, section_at, pairs_at, sources_at, sections_from, sections_at}
use Rattle.hbc_parsing_sections.proofs.Laws.{section_on}
use Rattle.hbc_claims_law.specs.Terms.{Sized, SourcesSized}
use Rattle.hbc_claims_parsing.specs.SectionSizes.{Counted}

-- ---- one section

sized_at : (bytes entries : ℕ) (c : Cursor) (p : Section) (next end : Cursor) → c.at ≤ end.at → end.at ≡ aligned_up 4 (c.at + bytes)
    → got (section c.at (end.at - c.at) entries) end ≡ got p next → Sized p entries bytes
sized_at bytes entries c p next end o i e =
    let z = same_got (section c.at (end.at - c.at) entries) p end next e in
    let x : c.at ≡ p.start = ap (λ (q : Section). q.start) z.0 in
    let y : end.at - c.at ≡ p.size = ap (λ (q : Section). q.size) z.0 in
    let w : p.start + p.size ≡ end.at = omega arith in
    record { has = sym (ap (λ (q : Section). q.entries) z.0); ends = w ∙ i ∙ ap (λ (n : ℕ). aligned_up 4 (n + bytes)) x }

section_sized : (s : List ℕ) (bytes entries : ℕ) (c : Cursor) (p : Section) (next : Cursor) → section_at bytes entries s c ≡ got p next → Sized p entries bytes
unfolding section_at
section_sized s bytes entries c p next e =
    let a = then_got (bytes_at bytes s c) _ p next e in
    let b = then_got (align_to s a.1 4) _ p next a.3 in
    let n : a.1 ≡ cursor_at (c.at + bytes) = (bytes_got bytes s c a.0 a.1 a.2).1.next in
    sized_at bytes entries c p next b.1
    (section_on bytes 4 s c a.1 b.1 a.0 a.2 b.2)
    ((aligned 4 s a.1 b.1 b.2).0 ∙ ap (λ (d : Cursor). aligned_up 4 d.at) n)
    b.3

pairs_sized : (s : List ℕ) (count : ℕ) (c : Cursor) (p : Section) (next : Cursor) → pairs_at count s c ≡ got p next → Sized p count (8 * count)
unfolding pairs_at
pairs_sized s count c p next e = section_sized s (8 * count) count c p next e

sources_sized : (given : Bool) (s : List ℕ) (count : ℕ) (c : Cursor) (v : Option Section) (next : Cursor) → sources_at given count s c ≡ got v next → SourcesSized given count v
unfolding sources_at
sources_sized true s count c v next e =
    let a = valued_got Some (pairs_at count s c) v next e in
    rw a.2 (refl, pairs_sized s count c a.0 next a.1)
sources_sized false s count c v next e = let z = same_got None v c next e in rw (← z.0) refl

-- ---- all of them

from_counted : (regexps storage cjs : ℕ) (given : Bool) (sources : ℕ) (s : List ℕ) (c : Cursor) (v : Sections) (n : Cursor)
    → sections_from regexps storage cjs given sources s c ≡ got v n → Counted regexps storage cjs given sources v
unfolding sections_from
from_counted regexps storage cjs given sources s c v n e =
    let a = then_got (pairs_at regexps s c) _ v n e in
    let b = then_got (section_at storage 0 s a.1) _ v n a.3 in
    let d = then_got (pairs_at cjs s b.1) _ v n b.3 in
    let u = then_got (sources_at given sources s d.1) _ v n d.3 in
    let w : Sections = record { regexps = a.0; storage = b.0; cjs = d.0; sources = u.0; bytecode = section u.1.at (left s u.1) 0 } in
    let z : w ≡ v = (same_got w v u.1 n u.3).0 in
    rw (← z)
    (record {
      regexps = pairs_sized s regexps c a.0 a.1 a.2;
      storage = section_sized s storage 0 a.1 b.0 b.1 b.2;
      cjs = pairs_sized s cjs b.1 d.0 d.1 d.2;
      sources = sources_sized given s sources d.1 u.0 u.1 u.2;
      bytecode = refl;
    })

pub counted : (start regexps storage cjs : ℕ) (given : Bool) (sources : ℕ) (s : List ℕ) (v : Sections) (n : Cursor)
    → sections_at start regexps storage cjs given sources s ≡ got v n → Counted regexps storage cjs given sources v
unfolding sections_at
counted start regexps storage cjs given sources s v n e =
    let a = then_got (seek_to s (cursor_at 0) start) _ v n e in
    from_counted regexps storage cjs given sources s a.1 v n a.3

-- what an accepted answer says of the read behind it
pub was_got : {A : Type 0} (o : Outcome A) (v : A) → gives v ≡ told o → (n : Cursor) × (o ≡ got v n)
was_got (got x n) v e = let z : v ≡ x = cc in (n, rw z)
was_got (refused r n) v e = absurd (let z : ◌≡◌ {A = ℕ} 0 1 = cc in omega arith)
