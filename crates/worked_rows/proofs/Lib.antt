pub mod TablesAnswer
