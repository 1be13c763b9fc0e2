-- What the words behind `link` ask for.
use Rattle.std.specs.Prelude.{ℕ, List, codes, Option, option_and_then, Result, Ok}
use Rattle.std.specs.Option.{unwrap_or}
use Rattle.ifs_bytes.specs.Outcome.{◌>>=◌}
use Rattle.ifs_words.specs.declared.cause.WordCause.{WordCause}
use Rattle.ifs_words.specs.declared.given.Given.{Given}
use Rattle.ifs_words.specs.declared.link.LinkKind.{LinkKind}
use Rattle.ifs_words.specs.declared.link.LinkKind.TheVariants.{Exec}
use Rattle.ifs_words.specs.declared.link.LinkWords.{LinkWords}
use Rattle.ifs_words.specs.declared.settings.Setting.TheVariants as settings
use Rattle.ifs_words.specs.Reading.{has, nothing, read_from, value_of}
use Rattle.ifs_words.specs.Settings.{link_settings}
use Rattle.ifs_words.specs.Together.{at_most, needed, paths_fit, values_of}
use Rattle.ifs_words.specs.Values.{kind_named}

abbrev pub link_kind : List Given → LinkKind
link_kind given = unwrap_or (option_and_then kind_named (value_of settings.Kind given)) Exec

unfoldable pub link_words : List Given → List (List ℕ) → List (List ℕ) → List ℕ → LinkWords
link_words given objects libs output = record {
  objects = objects;
  libs = libs;
  output = output;
  kind = link_kind given;
  entry_name = unwrap_or (value_of settings.Entry given) (codes "_start");
  soname = value_of settings.Soname given;
  runpath = value_of settings.Runpath given;
  interp = value_of settings.DynamicLinker given;
  export_dynamic = has settings.ExportDynamic given;
  allow_shlib_undefined = has settings.AllowShlibUndefined given;
  as_needed = has settings.AsNeeded given;
  bind_now = has settings.Now given;
  write_if_changed = has settings.WriteIfChanged given;
}

-- the words are read one by one, then looked at together: objects before libraries
unfoldable pub link_of : List (List ℕ) → Result LinkWords WordCause
link_of words = do
  read ← read_from link_settings words nothing
  _ ← paths_fit 4096 read.paths
  _ ← at_most 256 (values_of settings.Lib read.given)
  output ← needed settings.Output read.given
  Ok (link_words read.given read.paths (values_of settings.Lib read.given) output)
