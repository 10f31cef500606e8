pub mod RaisedLaws
pub mod ZerosLaws
