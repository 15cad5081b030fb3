-- The creates before the last one were done, each on what the one before left.
use Rattle.std.proofs.Common.{◌≡◌, ℕ, List, ap, sym, ◌∙◌, subst, [], Result, Err}
use Rattle.std.proofs.lemmas.Result.{err_from_is_err_and}
use Rattle.ocs_io.specs.Place.{with_file}
use Rattle.out_files.specs.declared.fault.OutFile.TheVariants.{Trace, Memory}
use Rattle.out_files.specs.declared.fault.WriteFault.{WriteFault}
use Rattle.out_files.specs.OutFiles.{OutFilesValue}
use Rattle.out_files.specs.Answers.{CreateAnswers}
use Rattle.out_files.specs.code.Pieces.{MakeAnswers}
use Rattle.out_files.proofs.CreateLaws.{second_refused, third_answered}
use Rattle.out_files.proofs.PlacesLaws.{leaves_on, leaves_refused}
use Rattle.out_files.proofs.TogetherLaws.{created_begins}
use Rattle.out_files.proofs.files.OutFiles.create.Goals as goal

pub returns-in_err-make-2-clause-answer : goal.returns-in_err-make-2-clause-answer
returns-in_err-make-2-clause-answer g c =
    let outside = g.P.Place.outside in
    let names = c.args.self.now.names in
    let returned = err_from_is_err_and c.from_residual-in_err-make-2.result c.from_residual-in_err-make-2.ensures.1 in
    let refused : c.from_residual-in_err-make-2.result ≡ Err c.in_err-make-2.field-0.0 = returned.1 ∙ ap (λ (fault : WriteFault). Err fault) returned.2 in
    let first : c.as_str.result.now ≡ names.frames = c.as_str.ensures.value ∙ ap (λ (v : OutFilesValue). v.names.frames) c.self.view_is in
    let second : c.as_str-2.result.now ≡ names.trace = c.as_str-2.ensures.value ∙ ap (λ (v : OutFilesValue). v.names.trace) c.self.view_is in
    subst (λ (r : Result (Unit {0}) WriteFault). CreateAnswers names (outside c.args.place.now) (outside c.make-2.new.place) r) (sym refused)
    (second_refused names (outside c.args.place.now) (outside c.make.new.place) (outside c.make-2.new.place) c.in_err-make-2.field-0.0
    (c.in_ok-make.ensures.answer ∙ ap (λ (name : List ℕ). with_file (outside c.args.place.now).files name []) first)
    (subst (λ (name : List ℕ). MakeAnswers name Trace (outside c.make.new.place) (outside c.make-2.new.place)
    (Err c.in_err-make-2.field-0.0)) second c.in_err-make-2.ensures.answer))

pub returns-clause-answer : goal.returns-clause-answer
returns-clause-answer g c =
    let outside = g.P.Place.outside in
    let names = c.args.self.now.names in
    let first : c.as_str.result.now ≡ names.frames = c.as_str.ensures.value ∙ ap (λ (v : OutFilesValue). v.names.frames) c.self.view_is in
    let second : c.as_str-2.result.now ≡ names.trace = c.as_str-2.ensures.value ∙ ap (λ (v : OutFilesValue). v.names.trace) c.self.view_is in
    let third : c.as_str-3.result.now ≡ names.memory = c.as_str-3.ensures.value ∙ ap (λ (v : OutFilesValue). v.names.memory) c.self.view_is in
    third_answered names (outside c.args.place.now) (outside c.make.new.place) (outside c.make-2.new.place) (outside c.make-3.new.place) c.make-3.result
    (c.in_ok-make.ensures.answer ∙ ap (λ (name : List ℕ). with_file (outside c.args.place.now).files name []) first)
    (c.in_ok-make-2.ensures.answer ∙ ap (λ (name : List ℕ). with_file (outside c.make.new.place).files name []) second)
    (subst (λ (name : List ℕ). MakeAnswers name Memory (outside c.make-2.new.place) (outside c.make-3.new.place) c.make-3.result) third
    c.make-3.ensures.answer)

pub returns-clause-together : goal.returns-clause-together
returns-clause-together g c =
    let outside = g.P.Place.outside in
    created_begins c.args.self.now (outside c.args.place.now) (outside c.make-3.new.place) c.make-3.result (returns-clause-answer g c)

pub returns-in_err-make-clause-place : goal.returns-in_err-make-clause-place
returns-in_err-make-clause-place g c =
    let returned = err_from_is_err_and c.from_residual.result c.from_residual.ensures.1 in
    let refused : c.from_residual.result ≡ Err c.in_err-make.field-0.0 = returned.1 ∙ ap (λ (fault : WriteFault). Err fault) returned.2 in
    leaves_refused g.P.Place.outside g.P.Place.readable g.P.Place.growable c.from_residual.result c.in_err-make.field-0.0 c.args.place.now c.make.new.place
    refused
    c.in_err-make.ensures.place

pub returns-in_err-make-2-clause-place : goal.returns-in_err-make-2-clause-place
returns-in_err-make-2-clause-place g c =
    let returned = err_from_is_err_and c.from_residual-in_err-make-2.result c.from_residual-in_err-make-2.ensures.1 in
    let refused : c.from_residual-in_err-make-2.result ≡ Err c.in_err-make-2.field-0.0 = returned.1 ∙ ap (λ (fault : WriteFault). Err fault) returned.2 in
    leaves_refused g.P.Place.outside g.P.Place.readable g.P.Place.growable c.from_residual-in_err-make-2.result c.in_err-make-2.field-0.0 c.args.place.now
    c.make-2.new.place refused
    (leaves_on g.P.Place.outside g.P.Place.readable g.P.Place.growable _ _ c.args.place.now c.make.new.place c.make-2.new.place c.in_ok-make.ensures.place
    c.in_err-make-2.ensures.place)

pub returns-clause-place : goal.returns-clause-place
returns-clause-place g c =
    leaves_on g.P.Place.outside g.P.Place.readable g.P.Place.growable _ c.make-3.result c.args.place.now c.make-2.new.place c.make-3.new.place
    (leaves_on g.P.Place.outside g.P.Place.readable g.P.Place.growable _ _ c.args.place.now c.make.new.place c.make-2.new.place c.in_ok-make.ensures.place
    c.in_ok-make-2.ensures.place)
    c.make-3.ensures.place
