use Rattle.yaml_profile.proofs.Readings.{documents_unique, fault_unique, read_or_faulty, never_both, documents_are_read, fault_is_read}
use Rattle.yaml_profile.proofs.Offsets.{shape_is_least}
use Rattle.yaml_profile.proofs.laws.texts_have_one_reading.Goals as goal

pub returns : goal.returns
returns c = record {
  documents = documents_unique;
  fault = fault_unique;
  either = read_or_faulty;
  never_both = never_both;
  documents_are_read = documents_are_read;
  fault_is_read = fault_is_read;
  shape_is_least = shape_is_least;
}
