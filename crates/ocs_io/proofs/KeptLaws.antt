-- The map that a list of named files stands for: what is found in it, and how it grows.
use Rattle.std.proofs.Common.{◌≡◌, ℕ, suc, ◌+◌, ◌<◌, ◌≤◌, Bool, true, false, not, List, [], ◌∷◌, ◌++◌, length}
use Rattle.std.proofs.Common.{get_or, set, refl, sym, ap, subst, ◌∙◌, Some, None, cond, arith, bytes_eq, nat_lt}
use Rattle.std.proofs.lemmas.Slice.Eq.{bytes_eq-Decides}
use Rattle.std.specs.List.{position, position_or_len}
use Rattle.std.specs.Ordering.{nat_cmp}
use Rattle.std.specs.Cmp.Lexicographic.{texts_ties, slice_cmp}
use borrow.Author.Tests.{ltb-true, ltb-false}
use Rattle.std.specs.FinMap.{get, insert, empty, get-empty}
use Rattle.ocs_io.specs.Place.{Files}
use Rattle.ocs_io.specs.code.KeptFiles.{files_of}
use Rattle.ocs_io.specs.declared.files.File.{File}
use Rattle.ocs_io.proofs.MapLaws.{same_name, get_inserted, insert_same, insert_twice, insert_other}

-- the test by which a file is looked for
abbrev pub is_named : List ℕ → File → Bool
is_named name file = bytes_eq name file.name.items

abbrev first : List ℕ → List File → ℕ
first name [] = 0
first name (file ∷ files) = cond (not (is_named name file)) (suc (first name files)) 0

first_is : (name : List ℕ) (files : List File) → position_or_len (is_named name) files ≡ first name files
first_is name [] = refl
first_is name (file ∷ files) = step (not (is_named name file)) _ _ (first_is name files)
  where
    step : (b : Bool) (m n : ℕ) → m ≡ n → cond b (1 + m) 0 ≡ cond b (suc n) 0
    step true m n e = omega arith
    step false m n e = refl

named_same : (name other : List ℕ) → bytes_eq name other ≡ same_name name other
named_same = texts_ties

same_called : (name other : List ℕ) → bytes_eq name other ≡ true → other ≡ name
same_called name other e = sym ((bytes_eq-Decides name other).0 e)

-- a name that no file has
absent : (name : List ℕ) (files : List File) → length files ≤ first name files → get (files_of files) name ≡ None
unfolding files_of
absent name [] none = get-empty (slice_cmp nat_cmp) name
absent name (file ∷ files) none = get_inserted (files_of files) file.name.items file.bytes.items name
    ∙ ap (λ b. cond b (Some file.bytes.items) (get (files_of files) name)) (sym (named_same name file.name.items))
    ∙ step (is_named name file) (absent name files) none
  where
    step : (b : Bool) → (length files ≤ first name files → get (files_of files) name ≡ None) → suc (length files) ≤ cond (not b) (suc (first name files)) 0
        → cond b (Some file.bytes.items) (get (files_of files) name) ≡ None
    step true more le = absurd (omega arith)
    step false more le = more (omega arith)

-- the first file of a name is what the map has there
found : (name : List ℕ) (files : List File) (d : File) → first name files < length files
    → get (files_of files) name ≡ Some (get_or files (first name files) d).bytes.items
unfolding files_of
found name [] d some = absurd (omega arith)
found name (file ∷ files) d some = get_inserted (files_of files) file.name.items file.bytes.items name
    ∙ ap (λ b. cond b (Some file.bytes.items) (get (files_of files) name)) (sym (named_same name file.name.items))
    ∙ step (is_named name file) (found name files d) some
  where
    step : (b : Bool) → (first name files < length files → get (files_of files) name ≡ Some (get_or files (first name files) d).bytes.items)
        → cond (not b) (suc (first name files)) 0 < suc (length files)
        → cond b (Some file.bytes.items) (get (files_of files) name) ≡ Some (get_or (file ∷ files) (cond (not b) (suc (first name files)) 0) d).bytes.items
    step true more lt = refl
    step false more lt = more (omega arith)

-- to change the first file of a name is to insert it
changed : (name : List ℕ) (files : List File) (file : File) → file.name.items ≡ name → first name files < length files
    → files_of (set files (first name files) file) ≡ insert (files_of files) name file.bytes.items
unfolding files_of
changed name [] file is some = absurd (omega arith)
changed name (top ∷ files) file is some = step (is_named name top) refl (changed name files file is) some
  where
    step : (b : Bool) → is_named name top ≡ b → (first name files < length files
        → files_of (set files (first name files) file) ≡ insert (files_of files) name file.bytes.items)
        → cond (not b) (suc (first name files)) 0 < suc (length files)
        → files_of (set (top ∷ files) (cond (not b) (suc (first name files)) 0) file)
        ≡ insert (insert (files_of files) top.name.items top.bytes.items) name file.bytes.items
    step true e more lt = ap (λ n. insert (files_of files) n file.bytes.items) is
        ∙ sym (ap (λ n. insert (insert (files_of files) n top.bytes.items) name file.bytes.items) (same_called name top.name.items e)
        ∙ insert_twice (files_of files) name top.bytes.items file.bytes.items)
    step false e more lt = ap (λ m. insert m top.name.items top.bytes.items) (more (omega arith))
        ∙ insert_other (files_of files) name top.name.items file.bytes.items top.bytes.items (sym (named_same name top.name.items) ∙ e)

-- to add a file of a name that no file has is to insert it
added : (name : List ℕ) (files : List File) (file : File) → file.name.items ≡ name → length files ≤ first name files
    → files_of (files ++ file ∷ []) ≡ insert (files_of files) name file.bytes.items
unfolding files_of
added name [] file is none = ap (λ n. insert empty n file.bytes.items) is
added name (top ∷ files) file is none = step (is_named name top) refl (added name files file is) none
  where
    step : (b : Bool) → is_named name top ≡ b → (length files ≤ first name files
        → files_of (files ++ file ∷ []) ≡ insert (files_of files) name file.bytes.items) → suc (length files) ≤ cond (not b) (suc (first name files)) 0
        → insert (files_of (files ++ file ∷ [])) top.name.items top.bytes.items
        ≡ insert (insert (files_of files) top.name.items top.bytes.items) name file.bytes.items
    step true e more le = absurd (omega arith)
    step false e more le = ap (λ m. insert m top.name.items top.bytes.items) (more (omega arith))
        ∙ insert_other (files_of files) name top.name.items file.bytes.items top.bytes.items (sym (named_same name top.name.items) ∙ e)

named : (name : List ℕ) (files : List File) (d : File) → first name files < length files → (get_or files (first name files) d).name.items ≡ name
named name [] d some = absurd (omega arith)
named name (file ∷ files) d some = step (is_named name file) refl (named name files d) some
  where
    step : (b : Bool) → is_named name file ≡ b → (first name files < length files → (get_or files (first name files) d).name.items ≡ name)
        → cond (not b) (suc (first name files)) 0 < suc (length files) → (get_or (file ∷ files) (cond (not b) (suc (first name files)) 0) d).name.items ≡ name
    step true e more lt = same_called name file.name.items e
    step false e more lt = more (omega arith)

chosen : (b : Bool) (n at : ℕ) → cond b (Some n) None ≡ Some at → (b ≡ true) × (n ≡ at)
chosen true n at h = (refl, cc)
chosen false n at h = (absurd (cc h), absurd (cc h))

unchosen : (b : Bool) (n : ℕ) → cond b (Some n) None ≡ None → b ≡ false
unchosen true n h = absurd (cc h)
unchosen false n h = refl

-- the file at the place that was found is the file of that name
pub record IsPlace (name : List ℕ) (files : List File) (at : ℕ) : Type 0 where
  pub within : at < length files
  pub named : (d : File) → (get_or files at d).name.items ≡ name
  pub found : (d : File) → get (files_of files) name ≡ Some (get_or files at d).bytes.items
  pub changed : (file : File) → file.name.items ≡ name → files_of (set files at file) ≡ insert (files_of files) name file.bytes.items

pub record IsNew (name : List ℕ) (files : List File) : Type 0 where
  pub absent : get (files_of files) name ≡ None
  pub added : (file : File) → file.name.items ≡ name → files_of (files ++ file ∷ []) ≡ insert (files_of files) name file.bytes.items

pub IsPlace-position : (name : List ℕ) (files : List File) (at : ℕ) → position (is_named name) files ≡ Some at → IsPlace name files at
IsPlace-position name files at e =
    let is = chosen (nat_lt (position_or_len (is_named name) files) (length files)) (position_or_len (is_named name) files) at e in
    let within : first name files < length files = omega (arith, ltb-true (position_or_len (is_named name) files) (length files) is.0, first_is name files) in
    subst (IsPlace name files) (sym (first_is name files) ∙ is.1) (record {
      within = within;
      named = λ d. named name files d within;
      found = λ d. found name files d within;
      changed = λ file called. changed name files file called within;
    })

pub IsNew-position : (name : List ℕ) (files : List File) → position (is_named name) files ≡ None → IsNew name files
IsNew-position name files e =
    let past : length files ≤ first name files = omega (
      arith,
      ltb-false (position_or_len (is_named name) files) (length files)
          (unchosen (nat_lt (position_or_len (is_named name) files) (length files)) (position_or_len (is_named name) files) e),
      first_is name files,
    ) in
    record { absent = absent name files past; added = λ file called. added name files file called past }

-- what the map has, and becomes, at the place that was found
pub record IsThere (name : List ℕ) (kept : List File) (value : Files) (at : ℕ) (old : File) : Type 0 where
  pub bytes : get value name ≡ Some old.bytes.items
  pub changed : (file : File) → file.name.items ≡ old.name.items → files_of (set kept at file) ≡ insert value name file.bytes.items
  pub unchanged : (file : File) → file.name.items ≡ old.name.items → file.bytes.items ≡ old.bytes.items → files_of (set kept at file) ≡ value

pub IsThere-found : (name : List ℕ) (looked kept : List File) (value : Files) (at : ℕ) (old : File) → looked ≡ kept → files_of kept ≡ value
    → Some at ≡ position (is_named name) looked → old ≡ get_or kept at old → IsThere name kept value at old
IsThere-found name looked kept value at old same view is read =
    let place = IsPlace-position name kept at (ap (position (is_named name)) (sym same) ∙ sym is) in
    let called : old.name.items ≡ name = ap (λ f. f.name.items) read ∙ place.named old in
    let bytes : get value name ≡ Some old.bytes.items = ap (λ f. get f name) (sym view) ∙ place.found old ∙ ap (λ f. Some f.bytes.items) (sym read) in
    record {
      bytes = bytes;
      changed = λ file named. place.changed file (named ∙ called) ∙ ap (λ f. insert f name file.bytes.items) view;
      unchanged = λ file named kept_bytes. place.changed file (named ∙ called) ∙ (λ i. insert (view i) name (kept_bytes i))
          ∙ insert_same value name old.bytes.items bytes;
    }

pub IsAbsent-looked : (name : List ℕ) (looked kept : List File) (value : Files) → looked ≡ kept → files_of kept ≡ value → None ≡ position (is_named name) looked
    → get value name ≡ None
IsAbsent-looked name looked kept value same view is = ap (λ f. get f name) (sym view)
    ∙ (IsNew-position name kept (ap (position (is_named name)) (sym same) ∙ sym is)).absent

pub with_new : (name : List ℕ) (looked kept : List File) (value : Files) (file : File) → looked ≡ kept → files_of kept ≡ value
    → None ≡ position (is_named name) looked → file.name.items ≡ name → files_of (kept ++ file ∷ []) ≡ insert value name file.bytes.items
with_new name looked kept value file same view is called = (IsNew-position name kept (ap (position (is_named name)) (sym same) ∙ sym is)).added file called
    ∙ ap (λ f. insert f name file.bytes.items) view
