-- `felica_answers::fields::put_fixed_of` meets its contract: the rows that the search leaves.
-- Assumes nothing.
use Rattle.std.proofs.Common.{inl, inr}
use Rattle.felica_answers.specs.Answer.{row_of}
use Rattle.felica_answers.proofs.fields.put_fixed_of.Goals as goal

pub returns-in-GetContainerProperty : goal.returns-in-GetContainerProperty
unfolding row_of
returns-in-GetContainerProperty c = λ s. rw c.in-GetContainerProperty.is (rw c.index.ensures at c.put_field-in-GetContainerProperty.ensures)

pub returns-in-Authentication1V2 : goal.returns-in-Authentication1V2
unfolding row_of
returns-in-Authentication1V2 c =
    let puts = rw c.as_slice.ensures at c.put_field-in-Authentication1V2.ensures in
    λ s. elim c.in-Authentication1V2.is [ inl first ↦ rw first.2 puts | inr second ↦ rw second puts ]

pub returns-in-RegisterIssueId : goal.returns-in-RegisterIssueId
unfolding row_of
returns-in-RegisterIssueId c = λ s. rw c.in-RegisterIssueId.is c.put_issue.ensures

pub returns-in-RegisterArea : goal.returns-in-RegisterArea
unfolding row_of
returns-in-RegisterArea c = λ s. rw c.in-RegisterArea.is c.put_field-in-RegisterArea.ensures

pub returns-in-RegisterService : goal.returns-in-RegisterService
unfolding row_of
returns-in-RegisterService c = λ s. rw c.in-RegisterService.is c.put_field-in-RegisterService.ensures
