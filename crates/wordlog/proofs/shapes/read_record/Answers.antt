-- No kind of givens has that number.
use Rattle.std.proofs.Common.{◌/◌, ◌%◌, ◌^◌, sym, ap, ◌∙◌}
use Rattle.wordlog.specs.Calls.{front_as}
use Rattle.wordlog.specs.Kinds.{record_number}
use Rattle.wordlog.specs.Reading.{front_of}
use Rattle.wordlog.proofs.Numbers.{no_given}
use Rattle.wordlog.proofs.shapes.read_record.Goals as goal

pub returns-in_err-kind-in-Given : goal.returns-in_err-kind-in-Given
returns-in_err-kind-in-Given c =
    let none = no_given (c.args.payload / 2 ^ 24) (c.args.payload % 2 ^ 24) c.args.rest.now c.try_from.result c.try_from.ensures (sym c.ok.ensures.value ∙ c.in_err-kind-in-Given.was) in
    ap front_as c.from_residual.ensures ∙ sym (ap (λ kind. front_of (record_number kind) c.args.payload c.args.rest.now) c.in-Given.is ∙ none)
