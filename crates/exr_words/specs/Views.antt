-- What contracts see of the fields.
use Rattle.std.specs.Prelude.{map, string_bytes, option_map}
use Rattle.exr_asked.specs.Choices.{choices_in}
use Rattle.exr_words.specs.declared.fields.Fields.{Fields as FieldsInCode}
use Rattle.exr_words.specs.Fields.{Fields}

abbrev pub fields_in : FieldsInCode → Fields
fields_in f = record {
  inputs = map string_bytes f.inputs.items;
  output = option_map string_bytes f.output;
  choices = choices_in f.choices;
}
