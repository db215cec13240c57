-- Lists of indexes as their names.
pub use Rattle.tce_fields.specs.Fields.{listed}
pub use Rattle.tce_fields.specs.Names.{names_of, index_list}
