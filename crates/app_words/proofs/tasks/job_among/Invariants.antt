use Rattle.std.proofs.Common.{◌≡◌, find, drop}
use Rattle.std.specs.Str.{bytes_eq}
use Rattle.app_words.specs.Tasks.{job_word}
use Rattle.app_words.proofs.tasks.job_among.Given as goal

abbrev pub invariant-loop-job : goal.invariant-loop-job
invariant-loop-job l = find (λ job. bytes_eq (job_word job) l.fn.word) (drop l.job-index l.jobs) ≡ find (λ job. bytes_eq (job_word job) l.fn.word) l.jobs
