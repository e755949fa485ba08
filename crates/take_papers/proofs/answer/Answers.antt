use Rattle.std.proofs.Common.{sym, ◌∙◌, inl, inr}
use Rattle.taking.specs.Sorted.{sorted_of}
use Rattle.taking.proofs.Answering.{taken_if}
use Rattle.take_papers.proofs.answer.Goals as goal

pub returns-in-NotTaken : goal.returns-in-NotTaken
returns-in-NotTaken c = (
  λ e. absurd cc,
  λ t.
      let taken = taken_if (sorted_of c.args.form.now) c.args.row.now c.args.kind c.take_as-taking.result c.take_as-taking.ensures t in
      elim c.in-NotTaken.is [
        | inl w ↦ let h = sym w ∙ taken in cc
        | inr w ↦ let h = sym w.1 ∙ taken in cc
      ],
)
