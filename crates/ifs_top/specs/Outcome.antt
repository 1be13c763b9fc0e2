-- What a command answers, by its words and the files alone.
use Rattle.std.specs.Prelude.{codes, Result, Ok, Err}
use Rattle.ifs_bytes.specs.Outcome.{◌>>=◌}
use Rattle.ifs_outside.specs.Files.{FileMap}
use Rattle.ifs_words.specs.Printed.{printed_word_cause}
use Rattle.ifs_words.specs.declared.cause.WordCause.{WordCause}
use Rattle.ifs_words.specs.declared.command.Command.{Command}
use Rattle.ifs_words.specs.declared.command.Command.TheVariants.{Stub}
use Rattle.ifs_words.specs.declared.command.StubWords.{StubWords}
use Rattle.ifs_top.specs.declared.refusal.Refusal.{Refusal}
use Rattle.ifs_top.specs.declared.refusal.Refusal.TheVariants as refusals
use Rattle.ifs_top.specs.declared.reply.Reply.{Reply}
use Rattle.ifs_top.specs.Inputs.{read_inputs}
use Rattle.ifs_top.specs.Reply.{fault}
use Rattle.ifs_top.specs.Stub.{stub_of_inputs}

-- the reply, or that of the refusal; no definition refuses for want of memory
abbrev pub settled : Result Reply Refusal → Reply
settled (Ok reply) = reply
settled (Err (refusals.Fault reply)) = reply
settled (Err refusals.Memory) = fault (codes "memory") (codes "memory") 5

-- `stub` reads all inputs before it parses the first
abbrev pub stub_reply : StubWords → FileMap → Reply
stub_reply words files = settled (read_inputs files words.inputs >>= stub_of_inputs words)

-- words that aren't understood are refused
abbrev pub refused_words : WordCause → Reply
refused_words cause = fault (codes "words") (printed_word_cause cause) 2

-- the reply to a command, or to words that are none, where the files hold this
abbrev pub outcome : Result Command WordCause → FileMap → Reply
outcome (Ok (Stub words)) files = stub_reply words files
outcome (Err cause) files = refused_words cause
