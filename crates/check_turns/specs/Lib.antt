pub mod TurnsFile
