-- What the exact answers of a place in memory tell of it as a place.
use Rattle.std.proofs.Common.{◌≡◌, ℕ, ◌/◌, ◌^◌, ◌<◌, ◌≤◌, inl, Bool, true, false, cond, List, [], ◌++◌, length, take}
use Rattle.std.proofs.Common.{refl, sym, ap, subst, ◌∙◌, Option, Some, is_some, Result, Ok, Err, arith, unwrap_or}
use Rattle.std.specs.FinMap.{get, insert}
use Rattle.ocs_io.specs.Place.{Files, with_file, grown, Rose, OnlyReads, OnlyWrites, OnlySays, KeepsNames}
use Rattle.ocs_io.specs.Answers.{ReadAnswers, CreateAnswers, AppendAnswers, SayAnswers, GrowsIfOk}
use Rattle.ocs_io.specs.Shelf.{ShelfValue, outside_of, IsHeld, IsAnyName, ShelfReads, ShelfCreates, ShelfAppends, ShelfSays}
use Rattle.ocs_io.proofs.MapLaws.{same_name, same_name-refl, get_inserted}
use Rattle.ocs_io.specs.declared.place.ReadRefusal.{ReadRefusal}
use Rattle.ocs_io.specs.declared.place.ReadRefusal.TheVariants.{Failed as ReadFailed, TooLong, OutOfMemory as NoRoomToRead}
use Rattle.ocs_io.specs.declared.place.WriteRefusal.{WriteRefusal}
use Rattle.ocs_io.specs.declared.place.WriteRefusal.TheVariants.{Failed, OutOfMemory}

pub IsHeld-inserted : (files : Files) (name bytes : List ℕ) → IsHeld (insert files name bytes) name
IsHeld-inserted files name bytes = ap is_some (get_inserted files name bytes name ∙ ap (λ b. cond b (Some bytes) (get files name)) (same_name-refl name))

pub IsHeld-insert : (files : Files) (name bytes other : List ℕ) → IsHeld files other → IsHeld (insert files name bytes) other
IsHeld-insert files name bytes other held = ap is_some (get_inserted files name bytes other) ∙ step (same_name other name) (get files other) held
  where
    step : (b : Bool) (x : Option (List ℕ)) → is_some x ≡ true → is_some (cond b (Some bytes) x) ≡ true
    step true x e = refl
    step false x e = e

pub ruleset held = (IsHeld-inserted, IsHeld-insert)

keeps : (old new : Files) → ((name : List ℕ) → IsHeld old name → IsHeld new name) → KeepsNames IsAnyName (IsHeld old) IsAnyName (IsHeld new)
keeps old new held = record { read = λ name any. any; grow = held }

same : (old new : Files) → new ≡ old → (name : List ℕ) → IsHeld old name → IsHeld new name
same old new e name held = subst (λ f. IsHeld f name) (sym e) held

more : (old new : Files) (name bytes : List ℕ) → new ≡ insert old name bytes → (other : List ℕ) → IsHeld old other → IsHeld new other
more old new name bytes e other held = subst (λ f. IsHeld f other) (sym e) (IsHeld-insert old name bytes other held)

-- read

pub ReadAnswers-shelf : (old new : ShelfValue) (name : List ℕ) (cap : ℕ) (read : List ℕ) (answer : Result (Unit {0}) ReadRefusal)
    → ShelfReads old new name cap read answer → ReadAnswers (outside_of old) name cap read answer
ReadAnswers-shelf old new name cap read (Ok done) is = (is.1, is.2)
ReadAnswers-shelf old new name cap read (Err ReadFailed) is = is.1
ReadAnswers-shelf old new name cap read (Err TooLong) is = (is.1, is.2)
ReadAnswers-shelf old new name cap read (Err NoRoomToRead) is = is.1

only_reads : (old new : ShelfValue) → new.files ≡ old.files → new.said ≡ old.said → old.read_faults ≤ new.read_faults → new.write_faults ≡ old.write_faults
    → new.say_faults ≡ old.say_faults → OnlyReads (outside_of old) (outside_of new)
only_reads old new files said reads writes says = record {
  files = ap Some files;
  said = ap Some said;
  read_faults = reads;
  write_faults = writes;
  say_faults =
      says;
}

pub OnlyReads-shelf : (old new : ShelfValue) (name : List ℕ) (cap : ℕ) (read : List ℕ) (answer : Result (Unit {0}) ReadRefusal) → old.read_faults < 2 ^ 64
    → ShelfReads old new name cap read answer → OnlyReads (outside_of old) (outside_of new)
OnlyReads-shelf old new name cap read (Ok done) fits is = let e = is.3 in
    only_reads old new (ap (λ s. s.files) e) (ap (λ s. s.said) e) (omega (arith, ap (λ s. s.read_faults) e)) (ap (λ s. s.write_faults) e)
    (ap (λ s. s.say_faults) e)
OnlyReads-shelf old new name cap read (Err ReadFailed) fits is = let e = is.2 in
    only_reads old new (ap (λ s. s.files) e) (ap (λ s. s.said) e) (omega (arith, ap (λ s. s.read_faults) e)) (ap (λ s. s.write_faults) e)
    (ap (λ s. s.say_faults) e)
OnlyReads-shelf old new name cap read (Err TooLong) fits is = let e = is.3 in
    only_reads old new (ap (λ s. s.files) e) (ap (λ s. s.said) e) (omega (arith, ap (λ s. s.read_faults) e)) (ap (λ s. s.write_faults) e)
    (ap (λ s. s.say_faults) e)
OnlyReads-shelf old new name cap read (Err NoRoomToRead) fits is = let e = is.2 in
    only_reads old new (ap (λ s. s.files) e) (ap (λ s. s.said) e) (omega (arith, ap (λ s. s.read_faults) e)) (ap (λ s. s.write_faults) e)
    (ap (λ s. s.say_faults) e)

pub Rose-read : (old new : ShelfValue) (name : List ℕ) (cap : ℕ) (read : List ℕ) (answer : Result (Unit {0}) ReadRefusal)
    → ShelfReads old new name cap read answer → answer ≡ Err ReadFailed → Rose old.read_faults new.read_faults
Rose-read old new name cap read (Ok done) is e = absurd (cc e)
Rose-read old new name cap read (Err ReadFailed) is e = omega (arith, ap (λ s. s.read_faults) is.2)
Rose-read old new name cap read (Err TooLong) is e = absurd (cc e)
Rose-read old new name cap read (Err NoRoomToRead) is e = absurd (cc e)

pub KeepsNames-read : (old new : ShelfValue) (name : List ℕ) (cap : ℕ) (read : List ℕ) (answer : Result (Unit {0}) ReadRefusal) → old.read_faults < 2 ^ 64
    → ShelfReads old new name cap read answer → KeepsNames IsAnyName (IsHeld old.files) IsAnyName (IsHeld new.files)
KeepsNames-read old new name cap read answer fits is = keeps old.files new.files
    (same old.files new.files (only_files old.files new.files (OnlyReads-shelf old new name cap read answer fits is).files))
  where
    only_files : (f g : Files) → Some g ≡ Some f → g ≡ f
    only_files f g e = cc e

-- create

pub CreateAnswers-shelf : (old new : ShelfValue) (name : List ℕ) (answer : Result (Unit {0}) WriteRefusal) → ShelfCreates old new name answer
    → CreateAnswers (outside_of old) (outside_of new) name answer
unfolding with_file
CreateAnswers-shelf old new name (Ok done) is = ap (λ s. Some s.files) is.1
CreateAnswers-shelf old new name (Err Failed) is = inl (ap (λ s. Some s.files) is.1)
CreateAnswers-shelf old new name (Err OutOfMemory) is = ap (λ s. Some s.files) is.1

pub GrowsIfOk-shelf : (old new : ShelfValue) (name : List ℕ) (answer : Result (Unit {0}) WriteRefusal) → ShelfCreates old new name answer
    → GrowsIfOk (IsHeld new.files name) answer
GrowsIfOk-shelf old new name (Ok done) is = subst (λ f. IsHeld f name) (sym (ap (λ s. s.files) is.1)) (IsHeld-inserted old.files name [])
GrowsIfOk-shelf old new name (Err Failed) is = tt
GrowsIfOk-shelf old new name (Err OutOfMemory) is = tt

only_writes : (old new : ShelfValue) → new.said ≡ old.said → new.read_faults ≡ old.read_faults → old.write_faults ≤ new.write_faults
    → new.say_faults ≡ old.say_faults → OnlyWrites (outside_of old) (outside_of new)
only_writes old new said reads writes says = record { said = ap Some said; read_faults = reads; write_faults = writes; say_faults = says }

pub OnlyWrites-create : (old new : ShelfValue) (name : List ℕ) (answer : Result (Unit {0}) WriteRefusal) → old.write_faults < 2 ^ 64
    → ShelfCreates old new name answer → OnlyWrites (outside_of old) (outside_of new)
OnlyWrites-create old new name (Ok done) fits is = let e = is.1 in
    only_writes old new (ap (λ s. s.said) e) (ap (λ s. s.read_faults) e) (omega (arith, ap (λ s. s.write_faults) e)) (ap (λ s. s.say_faults) e)
OnlyWrites-create old new name (Err Failed) fits is = let e = is.1 in
    only_writes old new (ap (λ s. s.said) e) (ap (λ s. s.read_faults) e) (omega (arith, ap (λ s. s.write_faults) e)) (ap (λ s. s.say_faults) e)
OnlyWrites-create old new name (Err OutOfMemory) fits is = let e = is.1 in
    only_writes old new (ap (λ s. s.said) e) (ap (λ s. s.read_faults) e) (omega (arith, ap (λ s. s.write_faults) e)) (ap (λ s. s.say_faults) e)

pub Rose-create : (old new : ShelfValue) (name : List ℕ) (answer : Result (Unit {0}) WriteRefusal) → ShelfCreates old new name answer → answer ≡ Err Failed
    → Rose old.write_faults new.write_faults
Rose-create old new name (Ok done) is e = absurd (cc e)
Rose-create old new name (Err Failed) is e = omega (arith, ap (λ s. s.write_faults) is.1)
Rose-create old new name (Err OutOfMemory) is e = absurd (cc e)

pub Same-create : (old new : ShelfValue) (name : List ℕ) (answer : Result (Unit {0}) WriteRefusal) → ShelfCreates old new name answer → answer ≡ Err OutOfMemory
    → outside_of new ≡ outside_of old
Same-create old new name (Ok done) is e = absurd (cc e)
Same-create old new name (Err Failed) is e = absurd (cc e)
Same-create old new name (Err OutOfMemory) is e = ap (λ s. outside_of s) is.1

pub KeepsNames-create : (old new : ShelfValue) (name : List ℕ) (answer : Result (Unit {0}) WriteRefusal) → ShelfCreates old new name answer
    → KeepsNames IsAnyName (IsHeld old.files) IsAnyName (IsHeld new.files)
KeepsNames-create old new name (Ok done) is = keeps old.files new.files (more old.files new.files name [] (ap (λ s. s.files) is.1))
KeepsNames-create old new name (Err Failed) is = keeps old.files new.files (same old.files new.files (ap (λ s. s.files) is.1))
KeepsNames-create old new name (Err OutOfMemory) is = keeps old.files new.files (same old.files new.files (ap (λ s. s.files) is.1))

-- append

pub AppendAnswers-shelf : (old new : ShelfValue) (name piece : List ℕ) (answer : Result (Unit {0}) WriteRefusal) → ShelfAppends old new name piece answer
    → AppendAnswers (outside_of old) (outside_of new) name piece answer
unfolding grown
AppendAnswers-shelf old new name piece (Ok done) is = ap (λ s. Some s.files) is.1
AppendAnswers-shelf old new name piece (Err Failed) is = (length piece / 2, ap (λ s. Some s.files) is.1)
AppendAnswers-shelf old new name piece (Err OutOfMemory) is = ap (λ s. Some s.files) is

pub OnlyWrites-append : (old new : ShelfValue) (name piece : List ℕ) (answer : Result (Unit {0}) WriteRefusal) → old.write_faults < 2 ^ 64
    → ShelfAppends old new name piece answer → OnlyWrites (outside_of old) (outside_of new)
OnlyWrites-append old new name piece (Ok done) fits is = let e = is.1 in
    only_writes old new (ap (λ s. s.said) e) (ap (λ s. s.read_faults) e) (omega (arith, ap (λ s. s.write_faults) e)) (ap (λ s. s.say_faults) e)
OnlyWrites-append old new name piece (Err Failed) fits is = let e = is.1 in
    only_writes old new (ap (λ s. s.said) e) (ap (λ s. s.read_faults) e) (omega (arith, ap (λ s. s.write_faults) e)) (ap (λ s. s.say_faults) e)
OnlyWrites-append old new name piece (Err OutOfMemory) fits is =
    only_writes old new (ap (λ s. s.said) is) (ap (λ s. s.read_faults) is) (omega (arith, ap (λ s. s.write_faults) is)) (ap (λ s. s.say_faults) is)

pub Rose-append : (old new : ShelfValue) (name piece : List ℕ) (answer : Result (Unit {0}) WriteRefusal) → ShelfAppends old new name piece answer
    → answer ≡ Err Failed → Rose old.write_faults new.write_faults
Rose-append old new name piece (Ok done) is e = absurd (cc e)
Rose-append old new name piece (Err Failed) is e = omega (arith, ap (λ s. s.write_faults) is.1)
Rose-append old new name piece (Err OutOfMemory) is e = absurd (cc e)

pub Same-append : (old new : ShelfValue) (name piece : List ℕ) (answer : Result (Unit {0}) WriteRefusal) → ShelfAppends old new name piece answer
    → answer ≡ Err OutOfMemory
    → outside_of new ≡ outside_of old
Same-append old new name piece (Ok done) is e = absurd (cc e)
Same-append old new name piece (Err Failed) is e = absurd (cc e)
Same-append old new name piece (Err OutOfMemory) is e = ap (λ s. outside_of s) is

pub KeepsNames-append : (old new : ShelfValue) (name piece : List ℕ) (answer : Result (Unit {0}) WriteRefusal) → ShelfAppends old new name piece answer
    → KeepsNames IsAnyName (IsHeld old.files) IsAnyName (IsHeld new.files)
KeepsNames-append old new name piece (Ok done) is = keeps old.files new.files
    (more old.files new.files name (unwrap_or (get old.files name) [] ++ piece) (ap (λ s. s.files) is.1))
KeepsNames-append old new name piece (Err Failed) is = keeps old.files new.files
    (more old.files new.files name (unwrap_or (get old.files name) [] ++ take (length piece / 2) piece) (ap (λ s. s.files) is.1))
KeepsNames-append old new name piece (Err OutOfMemory) is = keeps old.files new.files (same old.files new.files (ap (λ s. s.files) is))

-- say

pub SayAnswers-shelf : (old new : ShelfValue) (piece : List ℕ) (answer : Result (Unit {0}) WriteRefusal) → ShelfSays old new piece answer
    → SayAnswers (outside_of old) (outside_of new) piece answer
SayAnswers-shelf old new piece (Ok done) is = ap (λ s. Some s.said) is.1
SayAnswers-shelf old new piece (Err Failed) is = (length piece / 2, ap (λ s. Some s.said) is.1)
SayAnswers-shelf old new piece (Err OutOfMemory) is = ap (λ s. Some s.said) is

only_says : (old new : ShelfValue) → new.files ≡ old.files → new.read_faults ≡ old.read_faults → new.write_faults ≡ old.write_faults
    → old.say_faults ≤ new.say_faults → OnlySays (outside_of old) (outside_of new)
only_says old new files reads writes says = record { files = ap Some files; read_faults = reads; write_faults = writes; say_faults = says }

pub OnlySays-shelf : (old new : ShelfValue) (piece : List ℕ) (answer : Result (Unit {0}) WriteRefusal) → old.say_faults < 2 ^ 64
    → ShelfSays old new piece answer → OnlySays (outside_of old) (outside_of new)
OnlySays-shelf old new piece (Ok done) fits is = let e = is.1 in
    only_says old new (ap (λ s. s.files) e) (ap (λ s. s.read_faults) e) (ap (λ s. s.write_faults) e) (omega (arith, ap (λ s. s.say_faults) e))
OnlySays-shelf old new piece (Err Failed) fits is = let e = is.1 in
    only_says old new (ap (λ s. s.files) e) (ap (λ s. s.read_faults) e) (ap (λ s. s.write_faults) e) (omega (arith, ap (λ s. s.say_faults) e))
OnlySays-shelf old new piece (Err OutOfMemory) fits is = only_says old new (ap (λ s. s.files) is) (ap (λ s. s.read_faults) is) (ap (λ s. s.write_faults) is)
    (omega (arith, ap (λ s. s.say_faults) is))

pub Rose-say : (old new : ShelfValue) (piece : List ℕ) (answer : Result (Unit {0}) WriteRefusal) → ShelfSays old new piece answer → answer ≡ Err Failed
    → Rose old.say_faults new.say_faults
Rose-say old new piece (Ok done) is e = absurd (cc e)
Rose-say old new piece (Err Failed) is e = omega (arith, ap (λ s. s.say_faults) is.1)
Rose-say old new piece (Err OutOfMemory) is e = absurd (cc e)

pub Same-say : (old new : ShelfValue) (piece : List ℕ) (answer : Result (Unit {0}) WriteRefusal) → ShelfSays old new piece answer → answer ≡ Err OutOfMemory
    → outside_of new ≡ outside_of old
Same-say old new piece (Ok done) is e = absurd (cc e)
Same-say old new piece (Err Failed) is e = absurd (cc e)
Same-say old new piece (Err OutOfMemory) is e = ap (λ s. outside_of s) is

pub KeepsNames-say : (old new : ShelfValue) (piece : List ℕ) (answer : Result (Unit {0}) WriteRefusal) → ShelfSays old new piece answer
    → KeepsNames IsAnyName (IsHeld old.files) IsAnyName (IsHeld new.files)
KeepsNames-say old new piece (Ok done) is = keeps old.files new.files (same old.files new.files (ap (λ s. s.files) is.1))
KeepsNames-say old new piece (Err Failed) is = keeps old.files new.files (same old.files new.files (ap (λ s. s.files) is.1))
KeepsNames-say old new piece (Err OutOfMemory) is = keeps old.files new.files (same old.files new.files (ap (λ s. s.files) is))
