-- What a send comes to, its laws, the numbers of what a run sends, and what a program gets.
pub mod Sends
pub mod Laws
pub mod Numbers
pub mod Programs
pub mod Computed
