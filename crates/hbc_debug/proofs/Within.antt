-- The parts lie in the file; and the two ends of the call on the file.
use mathlib.Core.Path.{◌≡◌, refl, sym, ap, ◌∙◌}
use mathlib.Core.Bool.{Bool, true, false, cond}
use mathlib.Core.List.{List}
use Prim.Native.Nat.{ℕ, ◌+◌, ◌-◌, ◌≤◌}
use native.Mathlib.Omega.{arith}
use borrow.Author.Tests.{ltb-false}
use lib.Dec.{ltb}
use lib.ListN.{length, take, drop, length-take, length-drop}
use Rattle.std.specs.Prelude.{Result, Ok, Err}
use Rattle.hbc_io.specs.Outcome.{limit}
use Rattle.hbc_io.specs.Plain.{part_of, span_of, span_in}
use Rattle.hbc_io.specs.Answer.{Answer, gives, refuses, refused_at, and_then}
use Rattle.hbc_io.specs.Answers.{answered}
use Rattle.hbc_io.specs.Lends.{below, choose, written}
use Rattle.hbc_io.specs.declared.Refusal.{Refusal}
use Rattle.hbc_io.specs.declared.Span.{Span}
use Rattle.hbc_io.proofs.Exits.{refused, not_given, reached}
use Rattle.hbc_debug_parts.specs.Places.{in_file, in_section}
use Rattle.hbc_debug_parts.specs.Parts.{header_size, data_start, data_end, scopes_at, callees_at, strings_at, no_part, no_parts, part_at, parts_in, is_empty}
use Rattle.hbc_debug_parts.specs.Parts.{header_at, parts_of, FindParts, part_bytes}
use Rattle.hbc_debug_parts.proofs.Cases.{inside_of}
use Rattle.hbc_debug_parts.specs.declared.InFile.{InFile}
use Rattle.hbc_debug_parts.specs.declared.InSection.{InSection}
use Rattle.hbc_debug_parts.specs.declared.InData.{InData}
use Rattle.hbc_debug_parts.specs.declared.Header.{Header}
use Rattle.hbc_debug_parts.specs.declared.Part.{Part}
use Rattle.hbc_debug_parts.specs.declared.Parts.{Parts}
use Rattle.hbc_debug_parts.specs.declared.Marked.{Marked}
use Rattle.hbc_debug.specs.Debug.{Tables, contents, contents_in, counts_answer, with_rows, parts_given, ReadDebug}
use Rattle.hbc_debug.specs.Private.{ReadParts}
use Rattle.hbc_debug.specs.declared.Counts.{Counts}

-- the strings end by m
pub record Within (m : ℕ) (p : Parts) : Type 0 where
  pub strings : p.strings.start.0 + p.strings.len ≤ m

part_within : (section : InFile) (blob : InSection) (end from to : InData) (m : ℕ) → section.0 + (blob.0 + end.0) ≤ m
    → (part_at section blob end from to).start.0 + (part_at section blob end from to).len ≤ m
unfolding part_at
part_within section blob end from to m h = go (ltb to.0 from.0) (ltb end.0 to.0) refl refl
  where
    go : (a b : Bool) → ltb to.0 from.0 ≡ a → ltb end.0 to.0 ≡ b
        → (cond {A = Part} a no_part (cond {A = Part} b no_part (record { start = in_file section (in_section blob from); len = to.0 - from.0 }))).start.0
        + (cond {A = Part} a no_part (cond {A = Part} b no_part (record { start = in_file section (in_section blob from); len = to.0 - from.0 }))).len ≤ m
    go true b u v = omega arith
    go false true u v = omega arith
    go false false u v = omega (arith, ltb-false to.0 from.0 u, ltb-false end.0 to.0 v)

parts_within : (left : ℕ) (section : InFile) (h : Header) → Within (section.0 + left) (parts_in left section h)
unfolding parts_in
parts_within left section h = go (ltb left (in_section (data_start h) (data_end h)).0) refl
  where
    go : (a : Bool) → ltb left (in_section (data_start h) (data_end h)).0 ≡ a → Within (section.0 + left) (cond a no_parts (record {
      scopes = part_at section (data_start h) (data_end h) (scopes_at h) (callees_at h);
      callees = part_at section (data_start h) (data_end h) (callees_at h) (strings_at h);
      strings = part_at section (data_start h) (data_end h) (strings_at h) (data_end h);
    }))
    go true u = record { strings = omega arith }
    go false u = record {
      strings = part_within section (data_start h) (data_end h) (strings_at h) (data_end h) (section.0 + left)
          (omega (arith, ltb-false left (in_section (data_start h) (data_end h)).0 u));
    }

pub found_within : (file : List ℕ) (offset : ℕ) (p : Parts) → parts_of file offset ≡ gives p → Within limit p
unfolding parts_of choose
found_within file offset p e = let a = reached _ _ _ _ not_given e in go (is_empty (length file) offset) refl a.0 a.1
  where
    all : Parts
    all = parts_in (length file - offset) (record { 0 = offset }) (header_at file (record { 0 = offset }))

    none_within : Within limit no_parts
    none_within = record { strings = omega arith }

    go : (b : Bool) → is_empty (length file) offset ≡ b → length file ≤ limit
        → cond b (gives no_parts) (below (length file - offset) header_size (refused_at 3 0) (gives all)) ≡ gives p → Within limit p
    go true u l f = let q : no_parts ≡ p = cc in rw q at none_within
    go false u l f =
        let d : gives all ≡ gives p = (reached _ _ _ _ not_given f).1 in
        let q : all ≡ p = cc in
        let x = (parts_within (length file - offset) (record { 0 = offset }) (header_at file (record { 0 = offset }))).strings in
        let y : Within limit all = record { strings = omega (arith, inside_of (length file) offset u) } in
        rw q at y

-- the bytes of a part that lies in the file
pub part_short : (file : List ℕ) (start len m : ℕ) → start + len ≤ m → start + length (part_of file (span_of start len)) ≤ m
part_short file start len m h = go (ltb (length file) start) (ltb (length file - start) len)
  where
    spanned : Bool → Bool → Span
    spanned a b = cond a (span_of 0 0) (cond b (span_of 0 0) (span_of start len))

    go : (a b : Bool) → start + length (take (spanned a b).len (drop (spanned a b).start file)) ≤ m
    go true b = omega arith
    go false true = omega arith
    go false false = let t = length-take len (drop start file) in omega arith

-- and of any part: no more than the file has
part_most : (file : List ℕ) (start len : ℕ) → length (part_of file (span_of start len)) ≤ length file
part_most file start len = go (span_in file (span_of start len))
  where
    go : (p : Span) → length (take p.len (drop p.start file)) ≤ length file
    go p = let t = length-take p.len (drop p.start file) in let u = length-drop p.start file in omega arith

module _ (file : List ℕ) (offset : ℕ) where
  -- a file whose parts were found is short enough
  pub part_fits : {f : Result Parts Refusal} {p : Parts} (q : Part) {s : List ℕ} → FindParts file offset f → f ≡ Ok p → s ≡ part_bytes file q → length s ≤ limit
  unfolding parts_of
  part_fits q d e u =
      let t = ap length u in
      let h = part_most file q.start.0 q.len in
      let l = (reached _ _ _ _ not_given (sym d ∙ ap answered e)).0 in
      omega arith

  pub base_fits : {f : Result Parts Refusal} {p : Parts} {s : List ℕ} → FindParts file offset f → f ≡ Ok p → s ≡ part_bytes file p.strings
      → p.strings.start.0 + length s ≤ limit
  base_fits {f} {p} d e u =
      let t = ap length u in
      let h = part_short file p.strings.start.0 p.strings.len limit (found_within file offset p (sym d ∙ ap answered e)).strings in
      omega arith

  module _ (before : Tables) where
    pub section_refused : {f : Result Parts Refusal} {k : Refusal} → FindParts file offset f → f ≡ Err k → ReadDebug file offset before (Err k) before
    section_refused {f} {k} d e =
        let o : parts_of file offset ≡ refuses k = sym d ∙ ap answered e in
        refused refl (sym (ap (λ (a : Answer Parts). and_then a (λ p. counts_answer (contents_in file p) before)) o))

    pub section_found : {f : Result Parts Refusal} {p : Parts} {strings scopes callees : List ℕ} {r : Result (Marked Counts) Refusal} {after : Tables} → FindParts file offset f → f ≡ Ok p
        → strings ≡ part_bytes file p.strings → scopes ≡ part_bytes file p.scopes → callees ≡ part_bytes file p.callees
        → ReadParts (contents strings p.strings.start scopes callees) before r after → ReadDebug file offset before r after
    section_found {f} {p} {r = r} {after = after} d e u v w x =
        let o : parts_of file offset ≡ gives p = sym d ∙ ap answered e in
        let y : ReadParts (contents_in file p) before r after = rw (u, v, w) at x in
        record {
          says = y.says ∙ sym (ap (λ (a : Answer Parts). and_then a (λ p. counts_answer (contents_in file p) before)) o);
          leaves = y.leaves ∙ sym (ap (λ (a : Answer Parts). written (answered r) (with_rows (contents_in file (parts_given a)) before) before) o);
        }
