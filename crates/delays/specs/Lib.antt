pub mod Formulas
pub mod Line
pub mod Forgetting
pub mod OnceEach
pub mod StartedAgain
pub mod Least
pub mod ByNumber
pub mod Theorems
