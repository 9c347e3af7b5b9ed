-- What is called in runs, by the answers that are known.
use Rattle.std.specs.Prelude.{List}
use Rattle.cranelift_isle.specs.declared.lower.Lowered.{Lowered}
use Rattle.cranelift_isle.specs.Envs.{constant_at}
use Rattle.cranelift_isle.specs.Meaning.{TotalMeaning}
use Rattle.run_terms.specs.declared.values.Content.{Content}
use Rattle.report_traces.specs.KnownAnswers.{answered}
use Rattle.report_traces.specs.declared.runs.Runs.{Runs}

-- named constants are those of definitions, and these answers are those to the impure calls of a run, in order
abbrev pub answered_in : Lowered → Runs → (made : List Content) → TotalMeaning
answered_in l runs made = answered (constant_at l.tyenv) runs.extracted.items runs.called.items made
