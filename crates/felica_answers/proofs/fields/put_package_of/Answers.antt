-- `felica_answers::fields::put_package_of` meets its contract: the three commands that have a package.
-- Assumes nothing.
use Rattle.std.proofs.Common.{inl, inr}
use Rattle.felica_answers.specs.Answer.{row_of}
use Rattle.felica_answers.proofs.fields.put_package_of.Goals as goal

pub returns-in-RegisterIssueId : goal.returns-in-RegisterIssueId
unfolding row_of
returns-in-RegisterIssueId c =
    let puts = rw c.bytes_of.ensures at c.put_field.ensures in
    λ ch. elim c.in-RegisterIssueId.is [
      | inl issue ↦ rw issue puts
      | inr other ↦ elim other [ inl area ↦ rw area.1 puts | inr service ↦ rw service.1 puts ]
    ]
