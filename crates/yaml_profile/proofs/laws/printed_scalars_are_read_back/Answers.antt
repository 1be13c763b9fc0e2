use Rattle.yaml_profile.proofs.OneToken.{printed_is_one_token, printed_is_on_one_line}
use Rattle.yaml_profile.proofs.InTexts.{printed_stands_in_texts}
use Rattle.yaml_profile.proofs.laws.printed_scalars_are_read_back.Goals as goal

pub returns : goal.returns
returns c = record { one_token = printed_is_one_token; one_line = printed_is_on_one_line; in_texts = printed_stands_in_texts }
