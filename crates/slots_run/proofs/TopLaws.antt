-- The clauses of the top call, from what stands after the words and what was said.
use Rattle.std.proofs.Common.{◌≡◌, ℕ, ◌≤◌, ◌↔◌, List, take, Option, Some, None, Ok, Err, inl, inr, refl, sym, ap, subst, ◌∙◌, arith}
use Rattle.ocs_io.specs.Answers.{WhereTold}
use Rattle.ocs_io.specs.Place.{Files, Outside, Rose, OnlySays, said_more}
use Rattle.run_inputs.specs.Texts.{Says, SaysSurely, KeepsSaid}
use Rattle.run_inputs.specs.Verdict.{InputsVerdict, Absent, BadImage as BadImageVerdict, BadScript as BadScriptVerdict, Good, inputs_verdict}
use Rattle.run_inputs.specs.Fault.{status_of as status_of_inputs}
use Rattle.run_inputs.specs.Inputs.{IsInputFault}
use Rattle.run_inputs.specs.declared.fault.InputFault.{InputFault}
use Rattle.run_inputs.specs.declared.fault.InputFault.TheVariants.{BadImage, BadScript, Unread, OutOfMemory as NoRoomForInputs}
use Rattle.run_inputs.specs.declared.fault.InputFile.TheVariants.{Image, Script}
use Rattle.run_inputs.proofs.FaultLaws.{told_more, not_two, not_six, image_cause, script_cause, unread_cause, told_of_inputs}
use Rattle.run_inputs.proofs.VerdictLaws.{image_verdict, line_verdict}
use Rattle.slots_run.specs.Fault.{status_of}
use Rattle.slots_run.specs.Order.{SlotsOrderValue, order_of}
use Rattle.slots_run.specs.Texts.{text_of, usage_text}
use Rattle.slots_run.specs.Top.{OrderAnswers, UsageAnswers, WordsAnswers, IsDone, IsUnwritten, IsWanting, IsEarly}
use Rattle.slots_run.specs.Top.{HasBadImage, HasBadScript, Completed, IsToldOfOrder, IsTold, SaysStatus}
use Rattle.slots_run.specs.Verdict.{Verdict, Usage as UsageVerdict, Asked, of_order, of_asked}
use Rattle.slots_run.specs.declared.fault.SlotsFault.{SlotsFault}
use Rattle.slots_run.specs.declared.fault.SlotsFault.TheVariants.{Usage, Inputs, Unwritten, OutOfMemory}

-- ---- where the place tells its files

always : (files : Option Files) (Q : Files → Type 0) → ((f : Files) → Q f) → WhereTold files Q
always None Q f = tt
always (Some files) Q f = f files

kept_where_told : (before after : Option Files) → after ≡ before → WhereTold before (λ files. after ≡ Some files)
kept_where_told None after same = tt
kept_where_told (Some files) after same = same

rose_read : (old mid new : Outside) → OnlySays mid new → Rose old.read_faults mid.read_faults → Rose old.read_faults new.read_faults
rose_read old mid new says rose = subst (λ n. Rose old.read_faults n) (sym says.read_faults) rose

rose_write : (old mid new : Outside) → OnlySays mid new → Rose old.write_faults mid.write_faults → Rose old.write_faults new.write_faults
rose_write old mid new says rose = subst (λ n. Rose old.write_faults n) (sym says.write_faults) rose

-- ---- words of no form

usage_fault : (old mid : Outside) (fault : SlotsFault) → UsageAnswers old mid (Err fault) → (fault ≡ Usage) × (mid.files ≡ old.files)
usage_fault old mid Usage is = (refl, is)
usage_fault old mid (Inputs fault) is = absurd is
usage_fault old mid Unwritten is = absurd is
usage_fault old mid OutOfMemory is = absurd is

usage_status : (old mid : Outside) (fault : SlotsFault) (s : ℕ) → UsageAnswers old mid (Err fault) → s ≡ status_of fault → s ≡ 2
usage_status old mid fault s is e = e ∙ ap status_of (usage_fault old mid fault is).0

-- ---- the clauses of words of the form

module _ (order : SlotsOrderValue) (old mid : Outside) (s : ℕ) where
  order_no_usage : (fault : SlotsFault) → OrderAnswers order old mid (Err fault) → s ≡ status_of fault → s ≡ 2 → ⊥
  order_no_usage Usage is e two = is
  order_no_usage (Inputs fault) is e two = not_two fault (sym e ∙ two)
  order_no_usage Unwritten is e two = omega arith
  order_no_usage OutOfMemory is e two = omega arith

  order_image : (fault : SlotsFault) → OrderAnswers order old mid (Err fault) → s ≡ status_of fault → s ≡ 3
      → WhereTold old.files (λ files. HasBadImage (of_order order files))
  order_image Usage is e three = absurd is
  order_image (Inputs fault) is e three = image_cause old mid order.image order.script fault is.0 (sym e ∙ three)
  order_image Unwritten is e three = absurd (omega arith)
  order_image OutOfMemory is e three = absurd (omega arith)

  order_script : (fault : SlotsFault) → OrderAnswers order old mid (Err fault) → s ≡ status_of fault → s ≡ 4
      → WhereTold old.files (λ files. HasBadScript (of_order order files))
  order_script Usage is e four = absurd is
  order_script (Inputs fault) is e four = script_cause old mid order.image order.script fault is.0 (sym e ∙ four)
  order_script Unwritten is e four = absurd (omega arith)
  order_script OutOfMemory is e four = absurd (omega arith)

  order_told : (fault : SlotsFault) → OrderAnswers order old mid (Err fault) → IsToldOfOrder order old fault
  order_told Usage is = absurd is
  order_told (Inputs fault) is = told_of_inputs old mid order.image order.script fault is.0
  order_told Unwritten is = tt
  order_told OutOfMemory is = tt

-- what the verdict allows where all files are as before
pub wanting_kept : (order : SlotsOrderValue) (v : InputsVerdict) (files : Files) (new : Option Files) → new ≡ Some files
    → IsWanting (Asked order v) files new
wanting_kept order (Absent name) files new same = same
wanting_kept order BadImageVerdict files new same = same
wanting_kept order (BadScriptVerdict line kind) files new same = same
wanting_kept order (Good image script) files new same = inl same

unread_complete : (order : SlotsOrderValue) (v : InputsVerdict) (old new : Outside) (s : ℕ) → s ≡ 5 → Rose old.read_faults new.read_faults
    → Completed (Asked order v) old new s
unread_complete order (Absent name) old new s e rose = inl e
unread_complete order BadImageVerdict old new s e rose = inl rose
unread_complete order (BadScriptVerdict line kind) old new s e rose = inl rose
unread_complete order (Good image script) old new s e rose = inl (inl rose)

wanting_complete : (order : SlotsOrderValue) (v : InputsVerdict) (old new : Outside) (s : ℕ) → s ≡ 7 → Completed (Asked order v) old new s
wanting_complete order (Absent name) old new s e = inr e
wanting_complete order BadImageVerdict old new s e = inr (inr e)
wanting_complete order (BadScriptVerdict line kind) old new s e = inr (inr e)
wanting_complete order (Good image script) old new s e = inr (inr e)

unwritten_complete : (order : SlotsOrderValue) (v : InputsVerdict) (files : Files) (after : Option Files) (old new : Outside) (s : ℕ)
    → IsUnwritten (Asked order v) files after → Rose old.write_faults new.write_faults → Completed (Asked order v) old new s
unwritten_complete order (Absent name) files after old new s is rose = absurd is
unwritten_complete order BadImageVerdict files after old new s is rose = absurd is
unwritten_complete order (BadScriptVerdict line kind) files after old new s is rose = absurd is
unwritten_complete order (Good image script) files after old new s is rose = inl (inr rose)

not_early : (s n : ℕ) → s ≡ n → 6 ≤ n → IsEarly s → ⊥
not_early s n e big (inl two) = omega arith
not_early s n e big (inr (inl three)) = omega arith
not_early s n e big (inr (inr (inl four))) = omega arith
not_early s n e big (inr (inr (inr five))) = omega arith

module _ (order : SlotsOrderValue) (old mid new : Outside) (s : ℕ) (says : OnlySays mid new) where
  order_unread : (fault : SlotsFault) → OrderAnswers order old mid (Err fault) → s ≡ status_of fault → s ≡ 5
      → Rose old.read_faults new.read_faults
  order_unread Usage is e five = absurd is
  order_unread (Inputs fault) is e five = rose_read old mid new says (unread_cause old mid order.image order.script fault is.0 (sym e ∙ five))
  order_unread Unwritten is e five = absurd (omega arith)
  order_unread OutOfMemory is e five = absurd (omega arith)

  order_refused : (fault : SlotsFault) → OrderAnswers order old mid (Err fault) → s ≡ status_of fault → s ≡ 6
      → Rose old.write_faults new.write_faults × WhereTold old.files (λ files. IsUnwritten (of_order order files) files new.files)
  order_refused Usage is e six = absurd is
  order_refused (Inputs fault) is e six = absurd (not_six fault (sym e ∙ six))
  order_refused Unwritten is e six = (
    rose_write old mid new says is.0,
    subst (λ after. WhereTold old.files (λ files. IsUnwritten (of_order order files) files after)) (sym says.files) is.1,
  )
  order_refused OutOfMemory is e six = absurd (omega arith)

  order_wanting : (fault : SlotsFault) → OrderAnswers order old mid (Err fault) → s ≡ status_of fault → s ≡ 7
      → WhereTold old.files (λ files. IsWanting (of_order order files) files new.files)
  order_wanting Usage is e seven = absurd is
  order_wanting (Inputs fault) is e seven =
      told_more old.files (λ f. new.files ≡ Some f) (λ f. IsWanting (of_order order f) f new.files)
      (λ f same. wanting_kept order (inputs_verdict order.image order.script f) f new.files same)
      (kept_where_told old.files new.files (says.files ∙ is.1))
  order_wanting Unwritten is e seven = absurd (omega arith)
  order_wanting OutOfMemory is e seven =
      subst (λ after. WhereTold old.files (λ files. IsWanting (of_order order files) files after)) (sym says.files) is

  order_kept : (fault : SlotsFault) → OrderAnswers order old mid (Err fault) → s ≡ status_of fault → IsEarly s → new.files ≡ old.files
  order_kept Usage is e early = absurd is
  order_kept (Inputs fault) is e early = says.files ∙ is.1
  order_kept Unwritten is e early = absurd (not_early s 6 e (omega arith) early)
  order_kept OutOfMemory is e early = absurd (not_early s 7 e (omega arith) early)

  inputs_complete : (fault : InputFault) → IsInputFault old mid order.image order.script fault → s ≡ status_of_inputs fault
      → WhereTold old.files (λ files. Completed (of_order order files) old new s)
  inputs_complete BadImage is e =
      told_more old.files _ (λ f. Completed (of_order order f) old new s)
      (λ f v. subst (λ w. Completed (Asked order w) old new s) (sym v) (inr (inl e))) (image_verdict old order.image order.script is)
  inputs_complete (BadScript line kind) is e =
      told_more old.files _ (λ f. Completed (of_order order f) old new s)
      (λ f v. subst (λ w. Completed (Asked order w) old new s) (sym v) (inr (inl e))) (line_verdict old order.image order.script line kind is)
  inputs_complete (Unread Image) is e =
      always old.files (λ f. Completed (of_order order f) old new s) (λ f. unread_complete order _ old new s e (rose_read old mid new says is))
  inputs_complete (Unread Script) is e =
      always old.files (λ f. Completed (of_order order f) old new s) (λ f. unread_complete order _ old new s e (rose_read old mid new says is.0))
  inputs_complete NoRoomForInputs is e =
      always old.files (λ f. Completed (of_order order f) old new s) (λ f. wanting_complete order _ old new s e)

  order_complete : (fault : SlotsFault) → OrderAnswers order old mid (Err fault) → s ≡ status_of fault
      → WhereTold old.files (λ files. Completed (of_order order files) old new s)
  order_complete Usage is e = absurd is
  order_complete (Inputs fault) is e = inputs_complete fault is.0 e
  order_complete Unwritten is e =
      told_more old.files (λ f. IsUnwritten (of_order order f) f mid.files) (λ f. Completed (of_order order f) old new s)
      (λ f w. unwritten_complete order _ f mid.files old new s w (rose_write old mid new says is.0)) is.1
  order_complete OutOfMemory is e =
      always old.files (λ f. Completed (of_order order f) old new s) (λ f. wanting_complete order _ old new s e)

-- ---- the clauses, whatever the words

some_is_none : {A : Type 0} (x : A) → Some x ≡ None → ⊥
some_is_none x e = cc

module _ (old mid : Outside) (fault : SlotsFault) (s : ℕ) (e : s ≡ status_of fault) where
  usage_else : (n : ℕ) → UsageAnswers old mid (Err fault) → s ≡ n → (n ≡ 2 → ⊥) → ⊥
  usage_else n is other not_two = not_two (sym other ∙ usage_status old mid fault s is e)

  pub usage_clause : (asked : Option SlotsOrderValue) → WordsAnswers asked old mid (Err fault) → (s ≡ 2) ↔ (asked ≡ None)
  usage_clause None is = (λ two. refl, λ none. usage_status old mid fault s is e)
  usage_clause (Some order) is =
      (λ two. absurd (order_no_usage order old mid s fault is e two), λ none. absurd (some_is_none order none))

  pub image_clause : (asked : Option SlotsOrderValue) → WordsAnswers asked old mid (Err fault) → s ≡ 3
      → WhereTold old.files (λ files. HasBadImage (of_asked asked files))
  image_clause None is three = absurd (usage_else 3 is three (λ two. omega arith))
  image_clause (Some order) is three = order_image order old mid s fault is e three

  pub script_clause : (asked : Option SlotsOrderValue) → WordsAnswers asked old mid (Err fault) → s ≡ 4
      → WhereTold old.files (λ files. HasBadScript (of_asked asked files))
  script_clause None is four = absurd (usage_else 4 is four (λ two. omega arith))
  script_clause (Some order) is four = order_script order old mid s fault is e four

  module _ (new : Outside) (says : OnlySays mid new) where
    pub unread_clause : (asked : Option SlotsOrderValue) → WordsAnswers asked old mid (Err fault) → s ≡ 5 → Rose old.read_faults new.read_faults
    unread_clause None is five = absurd (usage_else 5 is five (λ two. omega arith))
    unread_clause (Some order) is five = order_unread order old mid new s says fault is e five

    pub refused_clause : (asked : Option SlotsOrderValue) → WordsAnswers asked old mid (Err fault) → s ≡ 6
        → Rose old.write_faults new.write_faults × WhereTold old.files (λ files. IsUnwritten (of_asked asked files) files new.files)
    refused_clause None is six = absurd (usage_else 6 is six (λ two. omega arith))
    refused_clause (Some order) is six = order_refused order old mid new s says fault is e six

    pub wanting_clause : (asked : Option SlotsOrderValue) → WordsAnswers asked old mid (Err fault) → s ≡ 7
        → WhereTold old.files (λ files. IsWanting (of_asked asked files) files new.files)
    wanting_clause None is seven = absurd (usage_else 7 is seven (λ two. omega arith))
    wanting_clause (Some order) is seven = order_wanting order old mid new s says fault is e seven

    pub kept_clause : (asked : Option SlotsOrderValue) → WordsAnswers asked old mid (Err fault) → IsEarly s → new.files ≡ old.files
    kept_clause None is early = says.files ∙ (usage_fault old mid fault is).1
    kept_clause (Some order) is early = order_kept order old mid new s says fault is e early

    pub complete_clause : (asked : Option SlotsOrderValue) → WordsAnswers asked old mid (Err fault)
        → WhereTold old.files (λ files. Completed (of_asked asked files) old new s)
    complete_clause None is =
        always old.files (λ f. Completed (of_asked None f) old new s) (λ f. usage_status old mid fault s is e)
    complete_clause (Some order) is = order_complete order old mid new s says fault is e

-- done
pub done_clause : (asked : Option SlotsOrderValue) (old new : Outside) (done : Unit {0}) → WordsAnswers asked old new (Ok done)
    → WhereTold old.files (λ files. IsDone (of_asked asked files) files new.files)
done_clause None old new done is = absurd is
done_clause (Some order) old new done is = is

done_complete : (v : Verdict) (files : Files) (after : Option Files) (old new : Outside) → IsDone v files after → Completed v old new 0
done_complete UsageVerdict files after old new is = absurd is
done_complete (Asked order (Absent name)) files after old new is = absurd is
done_complete (Asked order BadImageVerdict) files after old new is = absurd is
done_complete (Asked order (BadScriptVerdict line kind)) files after old new is = absurd is
done_complete (Asked order (Good image script)) files after old new is = inr (inl refl)

pub complete_done_clause : (asked : Option SlotsOrderValue) (old new : Outside) (done : Unit {0}) → WordsAnswers asked old new (Ok done)
    → WhereTold old.files (λ files. Completed (of_asked asked files) old new 0)
complete_done_clause asked old new done is =
    told_more old.files (λ f. IsDone (of_asked asked f) f new.files) (λ f. Completed (of_asked asked f) old new 0)
    (λ f has. done_complete (of_asked asked f) f new.files old new has) (done_clause asked old new done is)

-- ---- what is said

says_from : (text : List ℕ) (old mid new : Outside) → KeepsSaid old mid → Says text mid new → Says text old new
says_from text old mid new kept (inl (inl all)) = inl (inl (all ∙ ap (λ t. said_more t text) kept.said))
says_from text old mid new kept (inl (inr part)) =
    inl (inr (part.0, part.1 ∙ ap (λ t. said_more t (take part.0 text)) kept.said, subst (λ n. Rose n new.say_faults) kept.faults part.2))
says_from text old mid new kept (inr none) = inr (none ∙ kept.said)

told_by : (asked : Option SlotsOrderValue) (old mid : Outside) (fault : SlotsFault) → WordsAnswers asked old mid (Err fault) → IsTold asked old fault
told_by None old mid fault is = (usage_fault old mid fault is).0
told_by (Some order) old mid fault is = order_told order old mid 0 fault is

pub said_clause : (words : List (List ℕ)) (old mid new : Outside) (fault : SlotsFault) (s : ℕ) → WordsAnswers (order_of words) old mid (Err fault)
    → s ≡ status_of fault → KeepsSaid old mid → Says (text_of words fault) mid new → SaysStatus words old new s
said_clause words old mid new fault s is e kept says = inr (record {
  fault = fault;
  answered = e;
  said = says_from (text_of words fault) old mid new kept says;
  told = told_by (order_of words) old mid fault is;
})

pub said_done_clause : (words : List (List ℕ)) (old new : Outside) → KeepsSaid old new → SaysStatus words old new 0
said_done_clause words old new kept = inl (refl, kept.said)

usage_of : (asked : Option SlotsOrderValue) (old mid : Outside) (fault : SlotsFault) (s : ℕ) → WordsAnswers asked old mid (Err fault)
    → s ≡ status_of fault → s ≡ 2 → (asked ≡ None) × (fault ≡ Usage)
usage_of None old mid fault s is e two = (refl, (usage_fault old mid fault is).0)
usage_of (Some order) old mid fault s is e two = absurd (order_no_usage order old mid s fault is e two)

-- no call of the place comes before the usage is said
pub usage_said_clause : {V : Type 0} (outside : V → Outside) (freely : V → List ℕ → Type 0) (before mid : V) (new : Outside)
    (asked : Option SlotsOrderValue) (fault : SlotsFault) (s : ℕ)
    → WordsAnswers asked (outside before) (outside mid) (Err fault) → s ≡ status_of fault → (asked ≡ None → mid ≡ before)
    → (fault ≡ Usage → freely mid usage_text → SaysSurely usage_text (outside mid) new)
    → s ≡ 2 → freely before usage_text → SaysSurely usage_text (outside before) new
usage_said_clause outside freely before mid new asked fault s is e same says two free =
    let usage = usage_of asked (outside before) (outside mid) fault s is e two in
    let back : mid ≡ before = same usage.0 in
    subst (λ p. SaysSurely usage_text (outside p) new) back (says usage.1 (subst (λ p. freely p usage_text) (sym back) free))
