use Rattle.text_reader.proofs.SameTokens.{same_tokens}
use Rattle.text_reader.proofs.laws.white_space_says_nothing.Goals as goal

pub returns : goal.returns
returns c = same_tokens
