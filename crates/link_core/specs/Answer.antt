-- What a link answers for a job.
use Rattle.std.specs.Prelude.{All, Err, List, Ok, Result, length, map, ℕ, ◌<◌, ◌^◌, ◌≤◌}
use Rattle.ifs_interface.specs.Facts.{facts_of_interface}
use Rattle.ifs_interface.specs.Interface.{InterfaceRecord}
use Rattle.link_core.specs.declared.input.Job.{Job}
use Rattle.link_core.specs.declared.input.Lib.{Lib}
use Rattle.link_core.specs.declared.input.LibSource.{LibSource}
use Rattle.link_core.specs.declared.input.LibSource.TheVariants as sources
use Rattle.link_core.specs.declared.refusal.Answer.{Answer}
use Rattle.link_core.specs.declared.refusal.Answer.TheVariants as answers
use Rattle.link_core.specs.declared.refusal.LinkRefusal.{LinkRefusal}
use Rattle.link_core.specs.Link.{link_of}
use Rattle.link_core.specs.Side.{Held, Refused, Side, Versioned, library_named}

-- a library as a link sees it: its side
abbrev pub side_by : List ℕ → LibSource InterfaceRecord → Side
side_by file_name (sources.Held interface) = Held (library_named file_name (facts_of_interface interface))
side_by file_name sources.Versioned = Versioned
side_by file_name (sources.Refused cause) = Refused cause

abbrev pub side_of : Lib InterfaceRecord → Side
side_of lib = side_by lib.file_name lib.source

abbrev pub answer_by : Result (List ℕ) LinkRefusal → Answer
answer_by (Ok bytes) = answers.Image bytes
answer_by (Err refusal) = answers.Refused refusal

unfoldable pub answer_of : Job → Answer
answer_of job =
    answer_by (link_of job.options (map (λ input. input.bytes) job.objects) (map side_of job.libs))

-- what is linked: 1 to 4,096 objects of fewer than 2^32 bytes each, and at most 256 libraries
pub record IsJob (job : Job) : Type 0 where
  pub some : 1 ≤ length job.objects
  pub objects : length job.objects ≤ 4096
  pub libraries : length job.libs ≤ 256
  pub bytes : All (λ input. length input.bytes < 2 ^ 32) job.objects
