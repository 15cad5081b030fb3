-- A place on real files, of which only the counts are told.
use Rattle.std.specs.Prelude.{◌≡◌, ℕ, List, Option, None, Result, Ok, Err, refl}
use Rattle.std.specs.Coded.{Coded, code_by, coded×, coded_ℕ, coded_list, coded_option}
use Rattle.ocs_io.specs.Place.{Files, Outside, next_number}
use Rattle.ocs_io.specs.Files.{files_code}
use Rattle.ocs_io.specs.declared.place.ReadRefusal.{ReadRefusal}
use Rattle.ocs_io.specs.declared.place.ReadRefusal.TheVariants.{Failed as ReadFailed, TooLong, OutOfMemory as NoRoomToRead}
use Rattle.ocs_io.specs.declared.place.WriteRefusal.{WriteRefusal}
use Rattle.ocs_io.specs.declared.place.WriteRefusal.TheVariants.{Failed, OutOfMemory}

abbrev pub outside_code : Coded Outside
outside_code =
    code_by (Option Files × (Option (List ℕ) × (ℕ × (ℕ × ℕ))))
    (coded× (coded_option files_code) (coded× (coded_option (coded_list coded_ℕ)) (coded× coded_ℕ (coded× coded_ℕ coded_ℕ))))
    (λ o. (o.files, (o.said, (o.read_faults, (o.write_faults, o.say_faults)))))
    (λ t. record { files = t.0; said = t.1.0; read_faults = t.1.1.0; write_faults = t.1.1.1.0; say_faults = t.1.1.1.1 })
    (λ _. refl)

-- three counts of faults, and nothing of the contents
abbrev pub counts_alone : ℕ → ℕ → ℕ → Outside
counts_alone reads writes says = record { files = None; said = None; read_faults = reads; write_faults = writes; say_faults = says }

-- What a call counts: one fault of its kind where the system refused, and nothing else, not even where the file is
-- too long.
abbrev pub CountsRead : Outside → Outside → Result (Unit {0}) ReadRefusal → Type 0
CountsRead old new (Ok done) = new ≡ old
CountsRead old new (Err ReadFailed) = new ≡ record old { read_faults = next_number old.read_faults }
CountsRead old new (Err TooLong) = new ≡ old
CountsRead old new (Err NoRoomToRead) = new ≡ old

abbrev pub CountsWrite : Outside → Outside → Result (Unit {0}) WriteRefusal → Type 0
CountsWrite old new (Ok done) = new ≡ old
CountsWrite old new (Err Failed) = new ≡ record old { write_faults = next_number old.write_faults }
CountsWrite old new (Err OutOfMemory) = ⊥

abbrev pub CountsSay : Outside → Outside → Result (Unit {0}) WriteRefusal → Type 0
CountsSay old new (Ok done) = new ≡ old
CountsSay old new (Err Failed) = new ≡ record old { say_faults = next_number old.say_faults }
CountsSay old new (Err OutOfMemory) = ⊥
