-- What the exact answers of a place that never fails tell of it as a place.
use Rattle.std.proofs.Common.{◌≡◌, ℕ, List, [], ◌++◌, refl, sym, ap, subst, Some, Result, Ok, Err, arith, unwrap_or}
use Rattle.std.specs.FinMap.{get, insert}
use Rattle.ocs_io.specs.Place.{Files, with_file, grown, Rose, OnlyReads, OnlyWrites, OnlySays, KeepsNames}
use Rattle.ocs_io.specs.Answers.{ReadAnswers, CreateAnswers, AppendAnswers, SayAnswers, GrowsIfOk}
use Rattle.ocs_io.specs.Shelf.{IsHeld}
use Rattle.ocs_io.specs.SureShelf.{SureShelfValue, sure_outside, set_file, after_saying, SureReads, SureWrites}
use Rattle.ocs_io.proofs.ShelfLaws.{IsHeld-inserted, IsHeld-insert}
use Rattle.ocs_io.specs.declared.place.ReadRefusal.{ReadRefusal}
use Rattle.ocs_io.specs.declared.place.ReadRefusal.TheVariants.{Failed as ReadFailed, TooLong, OutOfMemory as NoRoomToRead}
use Rattle.ocs_io.specs.declared.place.WriteRefusal.{WriteRefusal}
use Rattle.ocs_io.specs.declared.place.WriteRefusal.TheVariants.{Failed, OutOfMemory}

keeps : (old new : Files) → ((name : List ℕ) → IsHeld old name → IsHeld new name) → KeepsNames (IsHeld old) (IsHeld old) (IsHeld new) (IsHeld new)
keeps old new held = record { read = held; grow = held }

same : (old new : Files) → new ≡ old → (name : List ℕ) → IsHeld old name → IsHeld new name
same old new e name held = subst (λ f. IsHeld f name) (sym e) held

more : (old new : Files) (name bytes : List ℕ) → new ≡ insert old name bytes → (other : List ℕ) → IsHeld old other → IsHeld new other
more old new name bytes e other held = subst (λ f. IsHeld f other) (sym e) (IsHeld-insert old name bytes other held)

module _ (old new : SureShelfValue) (name : List ℕ) (cap : ℕ) (read : List ℕ) where
  unmoved : (answer : Result (Unit {0}) ReadRefusal) → SureReads old new name cap read answer → new ≡ old
  unmoved (Ok done) is = is.2
  unmoved (Err ReadFailed) is = absurd is
  unmoved (Err TooLong) is = is.2
  unmoved (Err NoRoomToRead) is = is.1

  pub ReadAnswers-sure : (answer : Result (Unit {0}) ReadRefusal) → SureReads old new name cap read answer → ReadAnswers (sure_outside old) name cap read answer
  ReadAnswers-sure (Ok done) is = (is.0, is.1)
  ReadAnswers-sure (Err ReadFailed) is = absurd is
  ReadAnswers-sure (Err TooLong) is = (is.0, is.1)
  ReadAnswers-sure (Err NoRoomToRead) is = is.0

  pub OnlyReads-sure : (answer : Result (Unit {0}) ReadRefusal) → SureReads old new name cap read answer → OnlyReads (sure_outside old) (sure_outside new)
  OnlyReads-sure answer is = let e = unmoved answer is in
      record { files = ap (λ s. Some s.files) e; said = ap (λ s. Some s.said) e; read_faults = omega arith; write_faults = refl; say_faults = refl }

  pub Rose-read : (answer : Result (Unit {0}) ReadRefusal) → SureReads old new name cap read answer → answer ≡ Err ReadFailed → Rose 0 0
  Rose-read answer is e = absurd (subst (SureReads old new name cap read) e is)

  pub KeepsNames-read : (answer : Result (Unit {0}) ReadRefusal) → SureReads old new name cap read answer
      → KeepsNames (IsHeld old.files) (IsHeld old.files) (IsHeld new.files) (IsHeld new.files)
  KeepsNames-read answer is = keeps old.files new.files (same old.files new.files (ap (λ s. s.files) (unmoved answer is)))

pub Rose-write : (old done new : SureShelfValue) (answer : Result (Unit {0}) WriteRefusal) → SureWrites old done new answer → answer ≡ Err Failed → Rose 0 0
Rose-write old done new answer is e = absurd (subst (SureWrites old done new) e is)

pub Same-write : (old done new : SureShelfValue) (answer : Result (Unit {0}) WriteRefusal) → SureWrites old done new answer → answer ≡ Err OutOfMemory
    → sure_outside new ≡ sure_outside old
Same-write old done new answer is e = ap (λ s. sure_outside s) (subst (SureWrites old done new) e is)

module _ (old new : SureShelfValue) (name bytes : List ℕ) where
  pub OnlyWrites-sure : (answer : Result (Unit {0}) WriteRefusal) → SureWrites old (set_file old name bytes) new answer
      → OnlyWrites (sure_outside old) (sure_outside new)
  OnlyWrites-sure (Ok done) is = record { said = ap (λ s. Some s.said) is; read_faults = refl; write_faults = omega arith; say_faults = refl }
  OnlyWrites-sure (Err Failed) is = absurd is
  OnlyWrites-sure (Err OutOfMemory) is = record { said = ap (λ s. Some s.said) is; read_faults = refl; write_faults = omega arith; say_faults = refl }

  pub KeepsNames-write : (answer : Result (Unit {0}) WriteRefusal) → SureWrites old (set_file old name bytes) new answer
      → KeepsNames (IsHeld old.files) (IsHeld old.files) (IsHeld new.files) (IsHeld new.files)
  KeepsNames-write (Ok done) is = keeps old.files new.files (more old.files new.files name bytes (ap (λ s. s.files) is))
  KeepsNames-write (Err Failed) is = absurd is
  KeepsNames-write (Err OutOfMemory) is = keeps old.files new.files (same old.files new.files (ap (λ s. s.files) is))

pub CreateAnswers-sure : (old new : SureShelfValue) (name : List ℕ) (answer : Result (Unit {0}) WriteRefusal) → SureWrites old (set_file old name []) new answer
    → CreateAnswers (sure_outside old) (sure_outside new) name answer
unfolding with_file
CreateAnswers-sure old new name (Ok done) is = ap (λ s. Some s.files) is
CreateAnswers-sure old new name (Err Failed) is = absurd is
CreateAnswers-sure old new name (Err OutOfMemory) is = ap (λ s. Some s.files) is

pub GrowsIfOk-sure : (old new : SureShelfValue) (name : List ℕ) (answer : Result (Unit {0}) WriteRefusal) → SureWrites old (set_file old name []) new answer
    → GrowsIfOk (IsHeld new.files name) answer
GrowsIfOk-sure old new name (Ok done) is = subst (λ f. IsHeld f name) (sym (ap (λ s. s.files) is)) (IsHeld-inserted old.files name [])
GrowsIfOk-sure old new name (Err Failed) is = tt
GrowsIfOk-sure old new name (Err OutOfMemory) is = tt

pub AppendAnswers-sure : (old new : SureShelfValue) (name piece : List ℕ) (answer : Result (Unit {0}) WriteRefusal)
    → SureWrites old (set_file old name (unwrap_or (get old.files name) [] ++ piece)) new answer
    → AppendAnswers (sure_outside old) (sure_outside new) name piece answer
unfolding grown
AppendAnswers-sure old new name piece (Ok done) is = ap (λ s. Some s.files) is
AppendAnswers-sure old new name piece (Err Failed) is = absurd is
AppendAnswers-sure old new name piece (Err OutOfMemory) is = ap (λ s. Some s.files) is

pub SayAnswers-sure : (old new : SureShelfValue) (piece : List ℕ) (answer : Result (Unit {0}) WriteRefusal) → SureWrites old (after_saying old piece) new answer
    → SayAnswers (sure_outside old) (sure_outside new) piece answer
SayAnswers-sure old new piece (Ok done) is = ap (λ s. Some s.said) is
SayAnswers-sure old new piece (Err Failed) is = absurd is
SayAnswers-sure old new piece (Err OutOfMemory) is = ap (λ s. Some s.said) is

pub OnlySays-sure : (old new : SureShelfValue) (piece : List ℕ) (answer : Result (Unit {0}) WriteRefusal) → SureWrites old (after_saying old piece) new answer
    → OnlySays (sure_outside old) (sure_outside new)
OnlySays-sure old new piece (Ok done) is = record { files = ap (λ s. Some s.files) is; read_faults = refl; write_faults = refl; say_faults = omega arith }
OnlySays-sure old new piece (Err Failed) is = absurd is
OnlySays-sure old new piece (Err OutOfMemory) is = record
    { files = ap (λ s. Some s.files) is; read_faults = refl; write_faults = refl; say_faults = omega arith }

pub KeepsNames-say : (old new : SureShelfValue) (piece : List ℕ) (answer : Result (Unit {0}) WriteRefusal) → SureWrites old (after_saying old piece) new answer
    → KeepsNames (IsHeld old.files) (IsHeld old.files) (IsHeld new.files) (IsHeld new.files)
KeepsNames-say old new piece (Ok done) is = keeps old.files new.files (same old.files new.files (ap (λ s. s.files) is))
KeepsNames-say old new piece (Err Failed) is = absurd is
KeepsNames-say old new piece (Err OutOfMemory) is = keeps old.files new.files (same old.files new.files (ap (λ s. s.files) is))
