pub mod ModeTables
