use Rattle.app_words.proofs.Reading.{told_missing}
use Rattle.app_words.proofs.request.request_behind.Goals as goal

pub returns-in-Err : goal.returns-in-Err
returns-in-Err c = told_missing _ _ _ _ _ c.in_ok-given.ensures c.in-Err.ensures
